-- How far a text goes that goes on.
use Rattle.std.proofs.Common.{◌≡◌, ℕ, zero, suc, ◌+◌, ◌≤◌, Bool, true, false, List, [], ◌∷◌, ◌++◌, length, Option, Some, None, if◌then◌else◌, refl, sym, ap, subst, ◌∙◌, arith}
use Rattle.std.proofs.lemmas.List.{append-nil, append_assoc, length-append}
use Rattle.texts.specs.Lines.{Lacks, behind_lines, lines_of, text_of_lines}
use Rattle.texts.proofs.LineLaws.{behind_lines-feed, behind_lines-none, behind_lines-text, behind_lines_lacks, lines_lack, lines_of-feed, lines_of-none, lines_of-text, text_of_lines-read}
use Rattle.std.specs.Prelude.{◌==◌}
use Rattle.std.proofs.lemmas.List.Elements.{All-append}
use Rattle.std.specs.Prelude.{ℤ, pos}
use Rattle.std.specs.Str.{bytes_eq}
use Rattle.certificate_model.specs.Nodes.{Node}
use Rattle.certificate_model.specs.Text.{bound_in, end_line, head_line, node_in}
use Rattle.cert_format.specs.Fronts.{Part, Shown, awaited_behind, ending_behind, front_behind_bound, front_behind_head, front_of, front_of_lines, last_ending, node_before, part_of, with_bound, without_bound}
use Rattle.cert_format.specs.Progress.{Progress, after_bytes, after_line, after_lines, after_next, at_break, at_first, next_with, progress_of, with_bound_in, with_node_in}
use Rattle.cert_format.specs.declared.reading.Ending.TheVariants as ending
use Rattle.cert_format.specs.inner.Parts.{part_behind}
use Rattle.cert_format.specs.declared.next.Next.{Next}
use Rattle.cert_format.specs.declared.next.Next.TheVariants.{Head, Bound, Subtrees, Nothing, BadForm, Tail}
use Rattle.cert_format.specs.inner.LineReads.{IsAwaited, ending_at}

-- ---- lines of a text that goes on

pub lines_of-append : (text more : List ℕ) → lines_of (text ++ more) ≡ lines_of text ++ lines_of (behind_lines text ++ more)
lines_of-append text more =
    ap (λ text. lines_of (text ++ more)) (sym (text_of_lines-read text))
    ∙ ap lines_of (append_assoc (text_of_lines (lines_of text)) (behind_lines text) more)
    ∙ lines_of-text (lines_of text) (behind_lines text ++ more) (lines_lack text)

pub behind_lines-append : (text more : List ℕ) → behind_lines (text ++ more) ≡ behind_lines (behind_lines text ++ more)
behind_lines-append text more =
    ap (λ text. behind_lines (text ++ more)) (sym (text_of_lines-read text))
    ∙ ap behind_lines (append_assoc (text_of_lines (lines_of text)) (behind_lines text) more)
    ∙ behind_lines-text (lines_of text) (behind_lines text ++ more) (lines_lack text)

lacks_both : (text more : List ℕ) → Lacks 10 more → Lacks 10 (behind_lines text ++ more)
lacks_both text more lacks = All-append (λ x. (x == 10) ≡ false) (behind_lines text) more (behind_lines_lacks text) lacks

-- by bytes without a line feed
pub lines_of-same : (text more : List ℕ) → Lacks 10 more → lines_of (text ++ more) ≡ lines_of text
lines_of-same text more lacks =
    lines_of-append text more ∙ ap (λ lines. lines_of text ++ lines) (lines_of-none (behind_lines text ++ more) (lacks_both text more lacks)) ∙ append-nil (lines_of text)

pub behind_lines-more : (text more : List ℕ) → Lacks 10 more → behind_lines (text ++ more) ≡ behind_lines text ++ more
behind_lines-more text more lacks = behind_lines-append text more ∙ behind_lines-none (behind_lines text ++ more) (lacks_both text more lacks)

-- by the rest of a line, with its line feed
rest_and_feed : (text part : List ℕ) → behind_lines text ++ (part ++ 10 ∷ []) ≡ (behind_lines text ++ part) ++ 10 ∷ []
rest_and_feed text part = sym (append_assoc (behind_lines text) part (10 ∷ []))

pub lines_of-one_more : (text part : List ℕ) → Lacks 10 part → lines_of (text ++ (part ++ 10 ∷ [])) ≡ lines_of text ++ (behind_lines text ++ part) ∷ []
lines_of-one_more text part lacks =
    lines_of-append text (part ++ 10 ∷ [])
    ∙ ap (λ lines. lines_of text ++ lines)
    (ap lines_of (rest_and_feed text part) ∙ lines_of-feed (behind_lines text ++ part) [] (lacks_both text part lacks)
    ∙ ap (λ lines. (behind_lines text ++ part) ∷ lines) (lines_of-none [] (λ k d within. absurd (omega arith))))

pub behind_lines-one_more : (text part : List ℕ) → Lacks 10 part → behind_lines (text ++ (part ++ 10 ∷ [])) ≡ []
behind_lines-one_more text part lacks =
    behind_lines-append text (part ++ 10 ∷ []) ∙ ap behind_lines (rest_and_feed text part)
    ∙ behind_lines-feed (behind_lines text ++ part) [] (lacks_both text part lacks) ∙ behind_lines-none [] (λ k d within. absurd (omega arith))

-- the bytes that no line feed follows are bytes of the text
pub behind_lines_short : (text : List ℕ) → length (behind_lines text) ≤ length text
behind_lines_short text = omega (arith, ap length (text_of_lines-read text), length-append (text_of_lines (lines_of text)) (behind_lines text))

-- ---- progress over more lines

pub after_lines-append : (number : ℕ) (progress : Progress) (lines others : List (List ℕ)) → after_lines number progress (lines ++ others) ≡ after_lines (length lines + number) (after_lines number progress lines) others
after_lines-append number progress [] others = ap (λ number. after_lines number progress others) (omega arith)
after_lines-append number progress (line ∷ lines) others =
    after_lines-append (number + 1) (after_line number progress line) lines others
    ∙ ap (λ number'. after_lines number' (after_lines (number + 1) (after_line number progress line) lines) others) (omega arith)

-- what was said before the bytes that no line feed follows
abbrev pub behind_whole_lines : List ℕ → Progress
behind_whole_lines text = after_lines 1 at_first (lines_of text)

after_one_more : (text part : List ℕ) → Lacks 10 part → behind_whole_lines (text ++ (part ++ 10 ∷ [])) ≡ after_line (length (lines_of text) + 1) (behind_whole_lines text) (behind_lines text ++ part)
after_one_more text part lacks = ap (after_lines 1 at_first) (lines_of-one_more text part lacks) ∙ after_lines-append 1 at_first (lines_of text) ((behind_lines text ++ part) ∷ [])

-- no bytes change nothing
no_bytes : (next : Next) (number : ℕ) → next_with next number [] ≡ next
no_bytes Head number = refl
no_bytes Bound number = refl
no_bytes (Subtrees awaited) number = refl
no_bytes Nothing number = refl
no_bytes (BadForm line) number = refl
no_bytes (Tail line) number = refl

-- bytes change nothing where a line has to come
awaited_with : (next after : Next) (number : ℕ) (bytes : List ℕ) → next_with next number bytes ≡ after → IsAwaited after → next ≡ after
awaited_with Head after number bytes is awaited = is
awaited_with Bound after number bytes is awaited = is
awaited_with (Subtrees count) after number bytes is awaited = is
awaited_with Nothing after number [] is awaited = is
awaited_with Nothing after number (byte ∷ bytes) is awaited = absurd (subst IsAwaited (sym is) awaited)
awaited_with (BadForm line) after number bytes is awaited = is
awaited_with (Tail line) after number bytes is awaited = is

awaited_stays : (next : Next) (number : ℕ) (bytes : List ℕ) → IsAwaited next → next_with next number bytes ≡ next
awaited_stays Head number bytes awaited = refl
awaited_stays Bound number bytes awaited = refl
awaited_stays (Subtrees count) number bytes awaited = refl
awaited_stays Nothing number bytes awaited = absurd awaited
awaited_stays (BadForm line) number bytes awaited = absurd awaited
awaited_stays (Tail line) number bytes awaited = absurd awaited

-- ---- where a line has to come

-- bytes that no line feed follows tell nothing
pub awaited_is : (text : List ℕ) (next : Next) → (progress_of text).next ≡ next → IsAwaited next → progress_of text ≡ behind_whole_lines text
unfolding progress_of
awaited_is text next is awaited =
    let was : (behind_whole_lines text).next ≡ next = awaited_with (behind_whole_lines text).next next (length (lines_of text) + 1) (behind_lines text) is awaited in
    ap (λ (next : Next). record (behind_whole_lines text) { next = next }) (is ∙ sym was)

-- and no more of them do
pub awaited-bytes : (text bytes : List ℕ) (next : Next) → (progress_of text).next ≡ next → IsAwaited next → Lacks 10 bytes → progress_of (text ++ bytes) ≡ progress_of text
unfolding progress_of
awaited-bytes text bytes next is awaited lacks =
    let was : (behind_whole_lines text).next ≡ next = awaited_with (behind_whole_lines text).next next (length (lines_of text) + 1) (behind_lines text) is awaited in
    let same : behind_whole_lines (text ++ bytes) ≡ behind_whole_lines text = ap (after_lines 1 at_first) (lines_of-same text bytes lacks) in
    let still : (behind_whole_lines (text ++ bytes)).next ≡ next = ap (λ (progress : Progress). progress.next) same ∙ was in
    ap (λ (progress : Progress). after_bytes (length (lines_of (text ++ bytes)) + 1) progress (behind_lines (text ++ bytes))) same
    ∙ ap (λ (next : Next). record (behind_whole_lines text) { next = next })
    (ap (λ next. next_with next (length (lines_of (text ++ bytes)) + 1) (behind_lines (text ++ bytes))) was
    ∙ awaited_stays next (length (lines_of (text ++ bytes)) + 1) (behind_lines (text ++ bytes)) awaited ∙ sym is)

-- the rest of the line, with its line feed, tells what the line says
pub awaited-line : (text part : List ℕ) (next : Next) → (progress_of text).next ≡ next → IsAwaited next → Lacks 10 part →
    progress_of (text ++ (part ++ 10 ∷ [])) ≡ after_next next (length (lines_of text) + 1) (progress_of text) (behind_lines text ++ part)
unfolding progress_of
awaited-line text part next is awaited lacks =
    let number : ℕ = length (lines_of text) + 1 in
    let line : List ℕ = behind_lines text ++ part in
    let last : ℕ = length (lines_of (text ++ (part ++ 10 ∷ []))) + 1 in
    let after : Progress = after_line number (behind_whole_lines text) line in
    let was : (behind_whole_lines text).next ≡ next = awaited_with (behind_whole_lines text).next next number (behind_lines text) is awaited in
    ap (λ (progress : Progress). after_bytes last progress (behind_lines (text ++ (part ++ 10 ∷ [])))) (after_one_more text part lacks)
    ∙ ap (after_bytes last after) (behind_lines-one_more text part lacks)
    ∙ ap (λ (next : Next). record after { next = next }) (no_bytes after.next last)
    ∙ ap (λ (next : Next). after_next next number (behind_whole_lines text) line) was
    ∙ ap (λ (progress : Progress). after_next next number progress line) (sym (awaited_is text next is awaited))

-- ---- where no line has to come

-- the text broke
abbrev IsStopped : Next → Type 0
IsStopped (BadForm line) = Unit {0}
IsStopped (Tail line) = Unit {0}
IsStopped _ = ⊥

stopped-line : (next : Next) (number : ℕ) (progress : Progress) (line : List ℕ) → IsStopped next → after_next next number progress line ≡ progress
stopped-line Head number progress line stopped = absurd stopped
stopped-line Bound number progress line stopped = absurd stopped
stopped-line (Subtrees awaited) number progress line stopped = absurd stopped
stopped-line Nothing number progress line stopped = absurd stopped
stopped-line (BadForm at) number progress line stopped = refl
stopped-line (Tail at) number progress line stopped = refl

stopped-lines : (number : ℕ) (progress : Progress) (lines : List (List ℕ)) → IsStopped progress.next → after_lines number progress lines ≡ progress
stopped-lines number progress [] stopped = refl
stopped-lines number progress (line ∷ lines) stopped =
    ap (λ (progress : Progress). after_lines (number + 1) progress lines) (stopped-line progress.next number progress line stopped) ∙ stopped-lines (number + 1) progress lines stopped

stopped_with : (next : Next) (number : ℕ) (bytes : List ℕ) → IsStopped next → next_with next number bytes ≡ next
stopped_with Head number bytes stopped = refl
stopped_with Bound number bytes stopped = refl
stopped_with (Subtrees awaited) number bytes stopped = refl
stopped_with Nothing number bytes stopped = absurd stopped
stopped_with (BadForm at) number bytes stopped = refl
stopped_with (Tail at) number bytes stopped = refl

-- a line where none has to come counts as its first byte does
unawaited-line : (next : Next) (number : ℕ) (progress : Progress) (line bytes : List ℕ) (byte : ℕ) → progress.next ≡ next → (IsAwaited next → ⊥) →
    after_next next number progress line ≡ record progress { next = next_with next number (byte ∷ bytes) }
unawaited-line Head number progress line bytes byte is none = absurd (none tt)
unawaited-line Bound number progress line bytes byte is none = absurd (none tt)
unawaited-line (Subtrees awaited) number progress line bytes byte is none = absurd (none tt)
unawaited-line Nothing number progress line bytes byte is none = refl
unawaited-line (BadForm at) number progress line bytes byte is none = ap (λ (next : Next). record progress { next = next }) is
unawaited-line (Tail at) number progress line bytes byte is none = ap (λ (next : Next). record progress { next = next }) is

then_stopped : (next : Next) (number byte : ℕ) (bytes : List ℕ) → (IsAwaited next → ⊥) → IsStopped (next_with next number (byte ∷ bytes))
then_stopped Head number byte bytes none = absurd (none tt)
then_stopped Bound number byte bytes none = absurd (none tt)
then_stopped (Subtrees awaited) number byte bytes none = absurd (none tt)
then_stopped Nothing number byte bytes none = tt
then_stopped (BadForm at) number byte bytes none = tt
then_stopped (Tail at) number byte bytes none = tt

-- what bytes say that go on behind lines
abbrev going_on : ℕ → Progress → List ℕ → Progress
going_on number progress bytes = after_bytes (length (lines_of bytes) + number) (after_lines number progress (lines_of bytes)) (behind_lines bytes)

-- some bytes, of which the first line is one where none has to come
unawaited-some : (number last : ℕ) (progress : Progress) (line bytes behind : List ℕ) (lines : List (List ℕ)) (byte : ℕ) → (IsAwaited progress.next → ⊥) →
    after_bytes last (after_lines number progress (line ∷ lines)) behind ≡ after_bytes number progress (byte ∷ bytes)
unawaited-some number last progress line bytes behind lines byte none =
    let after : Progress = after_bytes number progress (byte ∷ bytes) in
    let stopped : IsStopped after.next = then_stopped progress.next number byte bytes none in
    ap (λ (progress : Progress). after_bytes last (after_lines (number + 1) progress lines) behind) (unawaited-line progress.next number progress line bytes byte refl none)
    ∙ ap (λ (progress : Progress). after_bytes last progress behind) (stopped-lines (number + 1) after lines stopped)
    ∙ ap (λ (next : Next). record after { next = next }) (stopped_with after.next last behind stopped)

unawaited-by : (number : ℕ) (progress : Progress) (bytes behind : List ℕ) (lines : List (List ℕ)) → (IsAwaited progress.next → ⊥) → text_of_lines lines ++ behind ≡ bytes →
    after_bytes (length lines + number) (after_lines number progress lines) behind ≡ after_bytes number progress bytes
unawaited-by number progress bytes behind [] none whole = ap (λ number. after_bytes number progress behind) (omega arith) ∙ ap (after_bytes number progress) whole
unawaited-by number progress [] behind (line ∷ lines) none whole =
    absurd (let empty = ap length whole in omega (arith, empty, length-append (text_of_lines (line ∷ lines)) behind, length-append (line ++ 10 ∷ []) (text_of_lines lines), length-append line (10 ∷ [])))
unawaited-by number progress (byte ∷ bytes) behind (line ∷ lines) none whole = unawaited-some number (length (line ∷ lines) + number) progress line bytes behind lines byte none

-- a text goes on behind its lines
goes_on : (text bytes : List ℕ) → progress_of (text ++ bytes) ≡ going_on (length (lines_of text) + 1) (behind_whole_lines text) (behind_lines text ++ bytes)
unfolding progress_of
goes_on text bytes =
    let number : ℕ = length (lines_of text) + 1 in
    let more : List (List ℕ) = lines_of (behind_lines text ++ bytes) in
    let after : Progress = after_lines number (behind_whole_lines text) more in
    ap (λ lines. after_bytes (length lines + 1) (after_lines 1 at_first lines) (behind_lines (text ++ bytes))) (lines_of-append text bytes)
    ∙ ap (λ (progress : Progress). after_bytes (length (lines_of text ++ more) + 1) progress (behind_lines (text ++ bytes))) (after_lines-append 1 at_first (lines_of text) more)
    ∙ ap (λ behind. after_bytes (length (lines_of text ++ more) + 1) after behind) (behind_lines-append text bytes)
    ∙ ap (λ last. after_bytes last after (behind_lines (behind_lines text ++ bytes))) (omega (arith, length-append (lines_of text) more))

with_both : (next : Next) (number : ℕ) (bytes others : List ℕ) → next_with next number (bytes ++ others) ≡ next_with (next_with next number bytes) number others
with_both Head number bytes others = refl
with_both Bound number bytes others = refl
with_both (Subtrees awaited) number bytes others = refl
with_both Nothing number [] others = refl
with_both Nothing number (byte ∷ bytes) others = refl
with_both (BadForm at) number bytes others = refl
with_both (Tail at) number bytes others = refl

-- bytes tell no more than that they are there
pub unawaited-bytes : (text bytes : List ℕ) → (IsAwaited (progress_of text).next → ⊥) → progress_of (text ++ bytes) ≡ after_bytes (length (lines_of text) + 1) (progress_of text) bytes
unfolding progress_of
unawaited-bytes text bytes none =
    let number : ℕ = length (lines_of text) + 1 in
    let was : IsAwaited (behind_whole_lines text).next → ⊥ = λ awaited. none (subst IsAwaited (sym (awaited_stays (behind_whole_lines text).next number (behind_lines text) awaited)) awaited) in
    goes_on text bytes
    ∙ unawaited-by number (behind_whole_lines text) (behind_lines text ++ bytes) (behind_lines (behind_lines text ++ bytes)) (lines_of (behind_lines text ++ bytes)) was (text_of_lines-read (behind_lines text ++ bytes))
    ∙ ap (λ (next : Next). record (behind_whole_lines text) { next = next }) (with_both (behind_whole_lines text).next number (behind_lines text) bytes)

-- ---- what a text says before its first line that breaks

-- what was said, and how a text ends as the line with a number
abbrev pub shown_at : ℕ → Progress → Shown
shown_at number progress = record { bound = progress.bound; nodes = progress.nodes; ending = ending_at progress.next number }

-- lines behind others, and bytes that no line feed follows
abbrev shown_behind : ℕ → Progress → List (List ℕ) → List ℕ → Shown
shown_behind number progress lines last = shown_at (length lines + number) (after_bytes (length lines + number) (after_lines number progress lines) last)

stopped_ending : (next : Next) (number last : ℕ) → IsStopped next → ending_at next last ≡ ending_at next number
stopped_ending Head number last stopped = absurd stopped
stopped_ending Bound number last stopped = absurd stopped
stopped_ending (Subtrees awaited) number last stopped = absurd stopped
stopped_ending Nothing number last stopped = absurd stopped
stopped_ending (BadForm at) number last stopped = refl
stopped_ending (Tail at) number last stopped = refl

-- a text that broke stays so
stopped_shown : (number at : ℕ) (progress : Progress) (lines : List (List ℕ)) (last : List ℕ) → IsStopped progress.next → shown_behind number progress lines last ≡ shown_at at progress
stopped_shown number at progress lines last stopped =
    ap (λ (progress : Progress). shown_at (length lines + number) (after_bytes (length lines + number) progress last)) (stopped-lines number progress lines stopped)
    ∙ ap (λ next. shown_at (length lines + number) (record progress { next = next })) (stopped_with progress.next (length lines + number) last stopped)
    ∙ ap (λ ending. record { bound = progress.bound; nodes = progress.nodes; ending = ending }) (stopped_ending progress.next at (length lines + number) stopped)

-- behind the line `end`
end_shown : (number : ℕ) (bound : ℤ) (nodes : List Node) (lines : List (List ℕ)) (last : List ℕ) →
    record { bound = bound; nodes = nodes; ending = ending_behind number lines last } ≡ shown_behind number (record { bound = bound; nodes = nodes; next = Nothing }) lines last
end_shown number bound nodes [] [] = refl
end_shown number bound nodes [] (byte ∷ bytes) = ap (λ number. record { bound = bound; nodes = nodes; ending = ending.Tail number }) (omega arith)
end_shown number bound nodes (line ∷ lines) last =
    sym (ap (λ last_number. shown_at last_number (after_bytes last_number (after_lines (number + 1) (record { bound = bound; nodes = nodes; next = Tail number }) lines) last)) (omega arith)
    ∙ stopped_shown (number + 1) 0 (record { bound = bound; nodes = nodes; next = Tail number }) lines last tt)

-- the line `end`, or another in its place
last_shown : (number : ℕ) (bound : ℤ) (nodes : List Node) (line : List ℕ) (lines : List (List ℕ)) (last : List ℕ) (is : Bool) →
    record { bound = bound; nodes = nodes; ending = (if is then ending_behind (number + 1) lines last else ending.BadForm number) }
    ≡ shown_behind (number + 1) (if is then record { bound = bound; nodes = nodes; next = Nothing } else record { bound = bound; nodes = nodes; next = BadForm number }) lines last
last_shown number bound nodes line lines last true = end_shown (number + 1) bound nodes lines last
last_shown number bound nodes line lines last false = sym (stopped_shown (number + 1) 0 (record { bound = bound; nodes = nodes; next = BadForm number }) lines last tt)

-- the same, with one line before the others
one_before : (number : ℕ) (progress : Progress) (line : List ℕ) (lines : List (List ℕ)) (last : List ℕ) →
    shown_behind (number + 1) (after_line number progress line) lines last ≡ shown_behind number progress (line ∷ lines) last
one_before number progress line lines last =
    ap (λ end. shown_at end (after_bytes end (after_lines (number + 1) (after_line number progress line) lines) last)) (omega arith)

-- the line of a node, or another in its place
node_shown : (number others : ℕ) (bound : ℤ) (nodes : List Node) (lines : List (List ℕ)) (last : List ℕ) (named : Option Node) →
    ((awaited : ℕ) (nodes : List Node) → with_bound bound (part_behind nodes (part_of (number + 1) awaited lines last)) ≡ shown_behind (number + 1) (record { bound = bound; nodes = nodes; next = Subtrees awaited }) lines last) →
    with_bound bound (part_behind nodes (node_before number named others (λ awaited. part_of (number + 1) awaited lines last)))
    ≡ shown_behind (number + 1) (with_node_in number others (record { bound = bound; nodes = nodes; next = Subtrees (suc others) }) named) lines last
node_shown number others bound nodes lines last None behind =
    ap (λ nodes. record { bound = bound; nodes = nodes; ending = ending.BadForm number }) (append-nil nodes)
    ∙ sym (stopped_shown (number + 1) 0 (record { bound = bound; nodes = nodes; next = BadForm number }) lines last tt)
node_shown number others bound nodes lines last (Some node) behind =
    let part : Part = part_of (number + 1) (awaited_behind node others) lines last in
    ap (λ nodes. record { bound = bound; nodes = nodes; ending = part.ending }) (sym (append_assoc nodes (node ∷ []) part.nodes))
    ∙ behind (awaited_behind node others) (nodes ++ node ∷ [])

-- the lines of a tree
lines_shown : (lines : List (List ℕ)) (number awaited : ℕ) (bound : ℤ) (nodes : List Node) (last : List ℕ) →
    with_bound bound (part_behind nodes (part_of number awaited lines last)) ≡ shown_behind number (record { bound = bound; nodes = nodes; next = Subtrees awaited }) lines last
lines_shown [] number zero bound nodes last =
    ap (λ nodes. record { bound = bound; nodes = nodes; ending = ending.BadForm number }) (append-nil nodes)
    ∙ ap (λ number. record { bound = bound; nodes = nodes; ending = ending.BadForm number }) (omega arith)
lines_shown [] number (suc others) bound nodes last =
    ap (λ nodes. record { bound = bound; nodes = nodes; ending = ending.BadForm number }) (append-nil nodes)
    ∙ ap (λ number. record { bound = bound; nodes = nodes; ending = ending.BadForm number }) (omega arith)
lines_shown (line ∷ lines) number zero bound nodes last =
    ap (λ nodes. record { bound = bound; nodes = nodes; ending = last_ending number (line ∷ lines) last }) (append-nil nodes)
    ∙ last_shown number bound nodes line lines last (bytes_eq line end_line)
    ∙ one_before number (record { bound = bound; nodes = nodes; next = Subtrees zero }) line lines last
lines_shown (line ∷ lines) number (suc others) bound nodes last =
    node_shown number others bound nodes lines last (node_in line) (λ awaited nodes. lines_shown lines (number + 1) awaited bound nodes last)
    ∙ one_before number (record { bound = bound; nodes = nodes; next = Subtrees (suc others) }) line lines last

-- behind the first line
bound_shown : (lines : List (List ℕ)) (last : List ℕ) (bound : Option ℤ) →
    front_behind_bound bound lines last ≡ shown_behind 3 (with_bound_in 2 (record { bound = pos 0; nodes = []; next = Bound }) bound) lines last
bound_shown lines last None = sym (stopped_shown 3 0 (record { bound = pos 0; nodes = []; next = BadForm 2 }) lines last tt)
bound_shown lines last (Some bound) = lines_shown lines 3 1 bound [] last

head_shown : (lines : List (List ℕ)) (last : List ℕ) → front_behind_head lines last ≡ shown_behind 2 (record { bound = pos 0; nodes = []; next = Bound }) lines last
head_shown [] last = refl
head_shown (line ∷ lines) last = bound_shown lines last (bound_in line) ∙ one_before 2 (record { bound = pos 0; nodes = []; next = Bound }) line lines last

first_shown : (lines : List (List ℕ)) (last : List ℕ) (is : Bool) →
    (if is then front_behind_head lines last else without_bound 1) ≡ shown_behind 2 (if is then record at_first { next = Bound } else at_break 1 at_first) lines last
first_shown lines last true = head_shown lines last
first_shown lines last false = sym (stopped_shown 2 0 (record { bound = pos 0; nodes = []; next = BadForm 1 }) lines last tt)

all_shown : (lines : List (List ℕ)) (last : List ℕ) → front_of_lines lines last ≡ shown_behind 1 at_first lines last
all_shown [] last = refl
all_shown (line ∷ lines) last = first_shown lines last (bytes_eq line head_line) ∙ one_before 1 at_first line lines last

-- what a text says is what its lines say one after another
pub front_of-progress : (text : List ℕ) → front_of text ≡ shown_at (length (lines_of text) + 1) (progress_of text)
unfolding front_of progress_of
front_of-progress text = all_shown (lines_of text) (behind_lines text)
