-- What a reader holds, and what its answers tell.
use Rattle.std.proofs.Common.{◌≡◌, ◌⊎◌, inl, inr, ℕ, zero, suc, ◌+◌, ◌-◌, ◌^◌, ◌<◌, ◌≤◌, List, [], ◌∷◌, ◌++◌, length, take, drop, Some, sym, refl, ap, subst, ◌∙◌, if◌then◌else◌, arith}
use Rattle.std.specs.Prelude.{ℤ, pos}
use Rattle.certificate_model.specs.Nodes as model
use Rattle.std.proofs.lemmas.List.{append-nil, append_assoc, length-append, take_all, take_at}
use Rattle.certificate_model.specs.Text.{node_in}
use Rattle.std.proofs.Math.Seq.{take-add}
use Rattle.texts.specs.Lines.{IsFirstLine, IsNoLine, Lacks, behind_lines, lines_of}
use Rattle.texts.proofs.LineLaws.{behind_lines-none, lines_of-none}
use Rattle.cert_format.specs.Fronts.{Shown, front_of}
use Rattle.cert_format.specs.Progress.{Progress, after_bytes, after_lines, after_next, at_break, at_first, next_with, progress_of, with_bound_in, with_node_in}
use Rattle.cert_format.specs.Readers.{IsBehindLines, IsBehindLinesBefore, IsFed, IsUnbroken, Marks, Reading, StandsFor, Tells, AreTold, bound_told, bound_with, nodes_told, nodes_with, with_event}
use Rattle.cert_format.specs.Unfinished.{ReadsAs}
use Rattle.cert_format.specs.declared.event.Event.{Event}
use Rattle.cert_format.specs.declared.event.Event.TheVariants as event
use Rattle.cert_format.specs.declared.next.Next.{Next}
use Rattle.cert_format.specs.declared.next.Next.TheVariants.{Head, Bound, Subtrees, Nothing, BadForm, Tail}
use Rattle.cert_format.specs.declared.reader.TheConstants.{ALL_PAIRS}
use Rattle.cert_format.specs.declared.reading.Ending.{Ending}
use Rattle.cert_format.specs.declared.reading.Ending.TheVariants as ending
use Rattle.cert_format.specs.inner.LineReads.{IsAwaited, IsLineRead, ending_at, told_at}
use Rattle.cert_format.proofs.LineLaws.{line_kept}
use Rattle.cert_format.proofs.ProgressLaws.{awaited-bytes, awaited-line, behind_lines-more, behind_lines-one_more, behind_lines_short, lines_of-one_more, front_of-progress, lines_of-same, unawaited-bytes}
use Rattle.cert_format.proofs.UnfinishedLaws.{reads_as_itself, whole_bound, whole_end, whole_head, whole_node}

-- ---- a line that is read as what is kept of it

-- all pairs of both are looked at
same_node : (most : ℕ) (kept line : List ℕ) → ReadsAs most kept line → length kept ≤ most → length line ≤ most → node_in kept ≡ node_in line
same_node most kept line reads short short_too = sym (line_kept most kept short) ∙ whole_node most kept line reads ∙ line_kept most line short_too

after_next-kept : (most number : ℕ) (next : Next) (progress : Progress) (kept line : List ℕ) → ReadsAs most kept line → length kept ≤ most → length line ≤ most →
    after_next next number progress line ≡ after_next next number progress kept
after_next-kept most number Head progress kept line reads short short_too =
    ap (λ is. if is then record progress { next = Bound } else at_break number progress) (sym (whole_head most kept line reads))
after_next-kept most number Bound progress kept line reads short short_too = ap (with_bound_in number progress) (sym (whole_bound most kept line reads))
after_next-kept most number (Subtrees zero) progress kept line reads short short_too =
    ap (λ is. if is then record progress { next = Nothing } else at_break number progress) (sym (whole_end most kept line reads))
after_next-kept most number (Subtrees (suc others)) progress kept line reads short short_too =
    ap (with_node_in number others progress) (sym (same_node most kept line reads short short_too))
after_next-kept most number Nothing progress kept line reads short short_too = refl
after_next-kept most number (BadForm at) progress kept line reads short short_too = refl
after_next-kept most number (Tail at) progress kept line reads short short_too = refl

-- so it tells the same
pub line_is_read : (most number : ℕ) (next after : Next) (event : Event) (kept line : List ℕ) → ReadsAs most kept line → length kept ≤ most → length line ≤ most → IsLineRead next number kept after event →
    IsLineRead next number line after event
line_is_read most number next after event kept line reads short short_too read = record {
  said = λ progress. after_next-kept most number next progress kept line reads short short_too ∙ read.said progress;
  mark = read.mark;
}

-- ---- the text with no bytes

pub progress_of-nothing : progress_of [] ≡ at_first
unfolding progress_of
progress_of-nothing =
    let no_feed : Lacks 10 [] = λ k d within. absurd (omega arith) in
    ap (λ lines. after_bytes (length lines + 1) (after_lines 1 at_first lines) (behind_lines [])) (lines_of-none [] no_feed)
    ∙ ap (after_bytes 1 at_first) (behind_lines-none [] no_feed)

pub stands_for_nothing : (reading : Reading) → reading ≡ record { next = Some Head; line = 1; bytes = []; taken = 0 } → StandsFor reading []
stands_for_nothing reading is =
    let no_feed : Lacks 10 [] = λ k d within. absurd (omega arith) in
    subst (λ reading. StandsFor reading []) (sym is)
    (record {
      next = ap (λ (progress : Progress). Some progress.next) (sym progress_of-nothing);
      lines = subst (λ (progress : Progress). IsBehindLinesBefore progress.next (record { next = Some Head; line = 1; bytes = []; taken = 0 }) []) (sym progress_of-nothing)
          (record { line = ap (λ lines. length lines + 1) (sym (lines_of-none [] no_feed)); bytes = subst (ReadsAs ALL_PAIRS []) (sym (behind_lines-none [] no_feed)) (reads_as_itself ALL_PAIRS []) });
      taken = refl;
    })

-- ---- what a reader holds of a text

-- where a line has to come it holds the bytes of the line
awaited_lines : (next : Next) (reading : Reading) (text : List ℕ) → IsAwaited next → IsBehindLinesBefore next reading text → IsBehindLines reading text
awaited_lines Head reading text awaited lines = lines
awaited_lines Bound reading text awaited lines = lines
awaited_lines (Subtrees count) reading text awaited lines = lines
awaited_lines Nothing reading text awaited lines = absurd awaited
awaited_lines (BadForm at) reading text awaited lines = absurd awaited
awaited_lines (Tail at) reading text awaited lines = absurd awaited

lines_before : (next : Next) (reading : Reading) (text : List ℕ) → IsBehindLines reading text → IsBehindLinesBefore next reading text
lines_before Head reading text lines = lines
lines_before Bound reading text lines = lines
lines_before (Subtrees count) reading text lines = lines
lines_before Nothing reading text lines = lines
lines_before (BadForm at) reading text lines = tt
lines_before (Tail at) reading text lines = tt

-- where a line has to come the text is not broken
awaited_unbroken : (next : Next) → IsAwaited next → IsUnbroken next
awaited_unbroken Head awaited = tt
awaited_unbroken Bound awaited = tt
awaited_unbroken (Subtrees count) awaited = tt
awaited_unbroken Nothing awaited = tt
awaited_unbroken (BadForm at) awaited = absurd awaited
awaited_unbroken (Tail at) awaited = absurd awaited

-- ---- the rest of a line, with its line feed

-- the bytes of a piece as far as its first line goes
first_bytes : (piece part behind : List ℕ) → IsFirstLine piece part behind → take (length piece - length behind) piece ≡ part ++ 10 ∷ []
first_bytes piece part behind first =
    let joined : piece ≡ (part ++ 10 ∷ []) ++ behind = first.cut.joined ∙ sym (append_assoc part (10 ∷ []) behind) in
    let long : length piece ≡ length (part ++ 10 ∷ []) + length behind = ap length joined ∙ length-append (part ++ 10 ∷ []) behind in
    ap (take (length piece - length behind)) joined ∙ take_at (part ++ 10 ∷ []) behind (length piece - length behind) (omega (arith, long))

pub line_is_fed : (text piece part behind : List ℕ) (old : Reading) (next after : Next) (told : Event) → StandsFor (record old { next = Some next }) text → IsAwaited next → IsFirstLine piece part behind →
    old.taken + length piece < 2 ^ 63 →
    ((line : List ℕ) → ReadsAs ALL_PAIRS old.bytes line → length line + length part ≤ ALL_PAIRS → IsLineRead next old.line (line ++ part) after told) →
    IsFed text (take (length piece - length behind) piece) told (record { next = Some after; line = old.line + 1; bytes = []; taken = old.taken + (length piece - length behind) })
line_is_fed text piece part behind old next after told stands awaited first few reads =
    let bytes : List ℕ = part ++ 10 ∷ [] in
    let new : Reading = record { next = Some after; line = old.line + 1; bytes = []; taken = old.taken + (length piece - length behind) } in
    let is : (progress_of text).next ≡ next = cc (stands.next) in
    let held : IsBehindLines (record old { next = Some next }) text = awaited_lines next (record old { next = Some next }) text awaited (subst (λ next'. IsBehindLinesBefore next' (record old { next = Some next }) text) is stands.lines) in
    let long : length piece ≡ length part + length behind + 1 = omega (arith, ap length first.cut.joined, length-append part (10 ∷ behind)) in
    let short : length (behind_lines text) + length part ≤ ALL_PAIRS = omega (arith, behind_lines_short text, stands.taken, few, long) in
    let read : IsLineRead next old.line (behind_lines text ++ part) after told = reads (behind_lines text) held.bytes short in
    let said : progress_of (text ++ bytes) ≡ with_event told after (progress_of text) =
    awaited-line text part next is awaited first.cut.first ∙ ap (λ number. after_next next number (progress_of text) (behind_lines text ++ part)) (sym held.line) ∙ read.said (progress_of text) in
    let reached : (progress_of (text ++ bytes)).next ≡ after = ap (λ (progress : Progress). progress.next) said in
    let count : length bytes ≡ length piece - length behind = omega (arith, long, length-append part (10 ∷ [])) in
    subst (λ bytes. IsFed text bytes told new) (sym (first_bytes piece part behind first))
    (record {
      stands = record {
        next = ap (λ (next : Next). Some next) (sym reached);
        lines = lines_before (progress_of (text ++ bytes)).next new (text ++ bytes)
            (record {
              line = ap (λ number. number + 1) held.line ∙ ap (λ count. count + 1) (sym (ap length (lines_of-one_more text part first.cut.first) ∙ length-append (lines_of text) ((behind_lines text ++ part) ∷ [])));
              bytes = subst (ReadsAs ALL_PAIRS []) (sym (behind_lines-one_more text part first.cut.first)) (reads_as_itself ALL_PAIRS []);
            });
        taken = ap (λ taken. taken + (length piece - length behind)) stands.taken ∙ sym (length-append text bytes ∙ ap (λ count. length text + count) count);
      };
      tells = record {
        said = said ∙ ap (λ next. with_event told next (progress_of text)) (sym reached);
        mark = subst (Marks told (progress_of text).next) (sym reached) (subst (λ next. Marks told next after) (sym is) read.mark);
      };
    })

-- ---- bytes of a line without its line feed

pub bytes_are_fed : (text piece bytes : List ℕ) (old : Reading) (next : Next) → StandsFor (record old { next = Some next }) text → IsAwaited next → IsNoLine piece →
    ((line : List ℕ) → ReadsAs ALL_PAIRS old.bytes line → ReadsAs ALL_PAIRS bytes (line ++ piece)) →
    IsFed text (take (length piece) piece) event.More (record { next = Some next; line = old.line; bytes = bytes; taken = old.taken + length piece })
bytes_are_fed text piece bytes old next stands awaited none reads =
    let new : Reading = record { next = Some next; line = old.line; bytes = bytes; taken = old.taken + length piece } in
    let is : (progress_of text).next ≡ next = cc (stands.next) in
    let held : IsBehindLines (record old { next = Some next }) text = awaited_lines next (record old { next = Some next }) text awaited (subst (λ next'. IsBehindLinesBefore next' (record old { next = Some next }) text) is stands.lines) in
    let same : progress_of (text ++ piece) ≡ progress_of text = awaited-bytes text piece next is awaited none.feeds in
    let reached : (progress_of (text ++ piece)).next ≡ next = ap (λ (progress : Progress). progress.next) same ∙ is in
    subst (λ bytes. IsFed text bytes event.More new) (sym (take_all (length piece) piece (omega arith)))
    (record {
      stands = record {
        next = ap (λ (next : Next). Some next) (sym reached);
        lines = lines_before (progress_of (text ++ piece)).next new (text ++ piece)
            (record {
              line = held.line ∙ ap (λ lines. length lines + 1) (sym (lines_of-same text piece none.feeds));
              bytes = subst (ReadsAs ALL_PAIRS bytes) (sym (behind_lines-more text piece none.feeds)) (reads (behind_lines text) held.bytes);
            });
        taken = ap (λ taken. taken + length piece) stands.taken ∙ sym (length-append text piece);
      };
      tells = record {
        said = same ∙ ap (λ next. with_event event.More next (progress_of text)) (sym (ap (λ (progress : Progress). progress.next) same));
        mark = (subst IsUnbroken (sym reached) (awaited_unbroken next awaited), inl (reached ∙ sym is));
      };
    })

-- ---- bytes where no line has to come

unawaited : (was : Next) (number : ℕ) (piece : List ℕ) (told : Event) → Some told ≡ told_at (next_with was number piece) → IsAwaited was → ⊥
unawaited Head number piece told is awaited = absurd (cc)
unawaited Bound number piece told is awaited = absurd (cc)
unawaited (Subtrees count) number piece told is awaited = absurd (cc)
unawaited Nothing number piece told is awaited = absurd awaited
unawaited (BadForm at) number piece told is awaited = absurd awaited
unawaited (Tail at) number piece told is awaited = absurd awaited

-- they count as those of the line that comes next
same_number : (was : Next) (reading : Reading) (text piece : List ℕ) → IsBehindLinesBefore was reading text → (IsAwaited was → ⊥) → next_with was reading.line piece ≡ next_with was (length (lines_of text) + 1) piece
same_number Head reading text piece lines none = absurd (none tt)
same_number Bound reading text piece lines none = absurd (none tt)
same_number (Subtrees count) reading text piece lines none = absurd (none tt)
same_number Nothing reading text piece lines none = ap (λ number. next_with Nothing number piece) lines.line
same_number (BadForm at) reading text piece lines none = refl
same_number (Tail at) reading text piece lines none = refl

mark_told : (was : Next) (number : ℕ) (piece : List ℕ) (told : Event) → Some told ≡ told_at (next_with was number piece) → Marks told was (next_with was number piece)
mark_told Head number piece told is = absurd (cc)
mark_told Bound number piece told is = absurd (cc)
mark_told (Subtrees count) number piece told is = absurd (cc)
mark_told Nothing number [] told is = let same : event.More ≡ told = cc in subst (λ told. Marks told Nothing Nothing) same (tt, inl refl)
mark_told Nothing number (byte ∷ bytes) told is = let same : event.Tail number ≡ told = cc in subst (λ told. Marks told Nothing (Tail number)) same refl
mark_told (BadForm at) number piece told is = let same : event.BadForm at ≡ told = cc in subst (λ told. Marks told (BadForm at) (BadForm at)) same refl
mark_told (Tail at) number piece told is = let same : event.Tail at ≡ told = cc in subst (λ told. Marks told (Tail at) (Tail at)) same refl

told_says : (was : Next) (number : ℕ) (piece : List ℕ) (told : Event) (progress : Progress) → Some told ≡ told_at (next_with was number piece) →
    with_event told (next_with was number piece) progress ≡ record progress { next = next_with was number piece }
told_says Head number piece told progress is = absurd (cc)
told_says Bound number piece told progress is = absurd (cc)
told_says (Subtrees count) number piece told progress is = absurd (cc)
told_says Nothing number [] told progress is = let same : told ≡ event.More = cc in ap (λ told. with_event told Nothing progress) same
told_says Nothing number (byte ∷ bytes) told progress is = let same : told ≡ event.Tail number = cc in ap (λ told. with_event told (Tail number) progress) same
told_says (BadForm at) number piece told progress is = let same : told ≡ event.BadForm at = cc in ap (λ told. with_event told (BadForm at) progress) same
told_says (Tail at) number piece told progress is = let same : told ≡ event.Tail at = cc in ap (λ told. with_event told (Tail at) progress) same

-- behind the end there are no bytes, or the text breaks
lines_told : (was : Next) (number : ℕ) (old new : Reading) (text piece : List ℕ) → new.line ≡ old.line → new.bytes ≡ old.bytes → (IsAwaited was → ⊥) → IsBehindLinesBefore was old text →
    IsBehindLinesBefore (next_with was number piece) new (text ++ piece)
lines_told Head number old new text piece line bytes none lines = absurd (none tt)
lines_told Bound number old new text piece line bytes none lines = absurd (none tt)
lines_told (Subtrees count) number old new text piece line bytes none lines = absurd (none tt)
lines_told Nothing number old new text [] line bytes none lines =
    subst (IsBehindLines new) (sym (append-nil text)) (record { line = line ∙ lines.line; bytes = subst (λ bytes. ReadsAs ALL_PAIRS bytes (behind_lines text)) (sym bytes) lines.bytes })
lines_told Nothing number old new text (byte ∷ piece) line bytes none lines = tt
lines_told (BadForm at) number old new text piece line bytes none lines = tt
lines_told (Tail at) number old new text piece line bytes none lines = tt

pub told_is_fed : (text piece : List ℕ) (old : Reading) (was next : Next) (told : Event) → StandsFor old text → old.next ≡ Some was → next ≡ next_with was old.line piece → Some told ≡ told_at next →
    IsFed text (take (length piece) piece) told (record { next = Some next; line = old.line; bytes = old.bytes; taken = old.taken + length piece })
told_is_fed text piece old was next told stands held is tells =
    let new : Reading = record { next = Some next; line = old.line; bytes = old.bytes; taken = old.taken + length piece } in
    let before : (progress_of text).next ≡ was = cc (stands.next, held) in
    let lines : IsBehindLinesBefore was old text = subst (λ next. IsBehindLinesBefore next old text) before stands.lines in
    let told_then : Some told ≡ told_at (next_with was old.line piece) = tells ∙ ap told_at is in
    let none : IsAwaited was → ⊥ = unawaited was old.line piece told told_then in
    let none_then : IsAwaited (progress_of text).next → ⊥ = λ awaited. none (subst IsAwaited before awaited) in
    let number = same_number was old text piece lines none in
    let reached : (progress_of (text ++ piece)).next ≡ next =
    ap (λ (progress : Progress). progress.next) (unawaited-bytes text piece none_then) ∙ ap (λ next. next_with next (length (lines_of text) + 1) piece) before ∙ sym number ∙ sym is in
    subst (λ bytes. IsFed text bytes told new) (sym (take_all (length piece) piece (omega arith)))
    (record {
      stands = record {
        next = ap (λ (next : Next). Some next) (sym reached);
        lines = subst (λ next. IsBehindLinesBefore next new (text ++ piece)) (sym (reached ∙ is)) (lines_told was old.line old new text piece refl refl none lines);
        taken = ap (λ taken. taken + length piece) stands.taken ∙ sym (length-append text piece);
      };
      tells = record {
        said =
            unawaited-bytes text piece none_then
            ∙ ap (λ (next : Next). record (progress_of text) { next = next }) (ap (λ next. next_with next (length (lines_of text) + 1) piece) before ∙ sym number)
            ∙ sym (told_says was old.line piece told (progress_of text) told_then)
            ∙ ap (λ next. with_event told next (progress_of text)) (sym (reached ∙ is));
        mark = subst (Marks told (progress_of text).next) (sym (reached ∙ is)) (subst (λ next. Marks told next (next_with was old.line piece)) (sym before) (mark_told was old.line piece told told_then));
      };
    })

-- ---- one piece after another

marks-by : (told : Event) (before between after : Next) → ((between ≡ before) ⊎ ((before ≡ Head) × (between ≡ Bound))) → Marks told between after → Marks told before after
marks-by told before between after (inl same) mark = subst (λ next. Marks told next after) same mark
marks-by event.More before between after (inr first) (unbroken, inl same) = (unbroken, inr (first.0, same ∙ first.1))
marks-by event.More before between after (inr first) (unbroken, inr second) = absurd (cc (first.1, second.0))
marks-by (event.Head bound) before between after (inr first) mark = mark
marks-by (event.Node node) before between after (inr first) mark = mark
marks-by event.Whole before between after (inr first) mark = absurd (cc (first.1, mark.0))
marks-by (event.BadForm line) before between after (inr first) mark = mark
marks-by (event.Tail line) before between after (inr first) mark = mark

-- an event behind nothing
pub tells_behind : (told : Event) (before between after : Progress) → Tells event.More before between → Tells told between after → Tells told before after
tells_behind told before between after first second = record {
  said = second.said ∙ ap (with_event told after.next) first.said;
  mark = marks-by told before.next between.next after.next first.mark.1 second.mark;
}

pub fed_twice : (text piece : List ℕ) (count more : ℕ) (told : Event) (between after : Reading) → IsFed text (take count piece) event.More between →
    IsFed (text ++ take count piece) (take more (drop count piece)) told after → IsFed text (take (count + more) piece) told after
fed_twice text piece count more told between after first second =
    let same : (text ++ take count piece) ++ take more (drop count piece) ≡ text ++ take (count + more) piece =
    append_assoc text (take count piece) (take more (drop count piece)) ∙ ap (λ bytes. text ++ bytes) (sym (take-add count more piece)) in
    record {
      stands = subst (StandsFor after) same second.stands;
      tells =
          tells_behind told (progress_of text) (progress_of (text ++ take count piece)) (progress_of (text ++ take (count + more) piece)) first.tells
          (subst (λ text'. Tells told (progress_of (text ++ take count piece)) (progress_of text')) same second.tells);
    }

-- ---- where nothing more comes

same_ending : (next : Next) (reading : Reading) (text : List ℕ) → IsBehindLinesBefore next reading text → ending_at next reading.line ≡ ending_at next (length (lines_of text) + 1)
same_ending Head reading text lines = ap ending.BadForm lines.line
same_ending Bound reading text lines = ap ending.BadForm lines.line
same_ending (Subtrees count) reading text lines = ap ending.BadForm lines.line
same_ending Nothing reading text lines = refl
same_ending (BadForm at) reading text lines = refl
same_ending (Tail at) reading text lines = refl

pub ends_so : (text : List ℕ) (reading : Reading) (next : Next) → StandsFor reading text → reading.next ≡ Some next → ending_at next reading.line ≡ (front_of text).ending
ends_so text reading next stands held =
    let is : (progress_of text).next ≡ next = cc (stands.next, held) in
    ap (λ next. ending_at next reading.line) (sym is) ∙ same_ending (progress_of text).next reading text stands.lines
    ∙ sym (ap (λ (front : Shown). front.ending) (front_of-progress text))

-- ---- all events

-- what events tell is what a text says beyond what it said before
pub told_are_said : (events : List Event) (before after : Progress) → AreTold events before after → (after.bound ≡ bound_told events before.bound) × (after.nodes ≡ nodes_told events before.nodes)
told_are_said [] before after same = (ap (λ (progress : Progress). progress.bound) same, ap (λ (progress : Progress). progress.nodes) same)
told_are_said (told ∷ events) before after (between, (tells, more)) =
    let said = told_are_said events between after more in
    (said.0 ∙ ap (λ (progress : Progress). bound_told events progress.bound) tells.said, said.1 ∙ ap (λ (progress : Progress). nodes_told events progress.nodes) tells.said)

pub told_are_the_front : (events : List Event) (text : List ℕ) → AreTold events (progress_of []) (progress_of text) → ((front_of text).bound ≡ bound_told events (pos 0)) × ((front_of text).nodes ≡ nodes_told events [])
told_are_the_front events text told =
    let said = told_are_said events (progress_of []) (progress_of text) told in
    let front = front_of-progress text in (
      ap (λ (front : Shown). front.bound) front ∙ said.0 ∙ ap (λ (progress : Progress). bound_told events progress.bound) progress_of-nothing,
      ap (λ (front : Shown). front.nodes) front ∙ said.1 ∙ ap (λ (progress : Progress). nodes_told events progress.nodes) progress_of-nothing,
    )

-- ---- a text that is read piece by piece

-- one piece more
pub piece_is_read : (text : List ℕ) (at count : ℕ) (told : Event) (reading : Reading) → IsFed (take at text) (take count (drop at text)) told reading →
    StandsFor reading (take (at + count) text)
    × ((progress_of (take (at + count) text)).bound ≡ bound_with told (progress_of (take at text)).bound)
    × ((progress_of (take (at + count) text)).nodes ≡ nodes_with told (progress_of (take at text)).nodes)
piece_is_read text at count told reading fed =
    let same : take at text ++ take count (drop at text) ≡ take (at + count) text = sym (take-add at count text) in
    let said = ap progress_of (sym same) ∙ fed.tells.said in
    (subst (StandsFor reading) same fed.stands, ap (λ (progress : Progress). progress.bound) said, ap (λ (progress : Progress). progress.nodes) said)

-- all pieces
pub pieces_are_read : (text : List ℕ) (at : ℕ) (bound : ℤ) (nodes : List model.Node) (ending : Ending) → length text ≤ at → bound ≡ (progress_of (take at text)).bound → nodes ≡ (progress_of (take at text)).nodes →
    ending ≡ (front_of (take at text)).ending → record { bound = bound; nodes = nodes; ending = ending } ≡ front_of text
pieces_are_read text at bound nodes ending all is_bound are_nodes is_ending =
    let whole : take at text ≡ text = take_all at text all in
    ap (λ bound. record { bound = bound; nodes = nodes; ending = ending }) (is_bound ∙ ap (λ text. (progress_of text).bound) whole)
    ∙ ap (λ nodes. record { bound = (progress_of text).bound; nodes = nodes; ending = ending }) (are_nodes ∙ ap (λ text. (progress_of text).nodes) whole)
    ∙ ap (λ ending. record { bound = (progress_of text).bound; nodes = (progress_of text).nodes; ending = ending }) (is_ending ∙ ap (λ text. (front_of text).ending) whole ∙ ap (λ (front : Shown). front.ending) (front_of-progress text))
    ∙ sym (front_of-progress text)
