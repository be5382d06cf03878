-- The lines of a text end with what stands behind the last line feed, and the faults of lines are those of each in its turn.
use Rattle.std.proofs.Common.{◌≡◌, ℕ, suc, ◌+◌, List, [], ◌∷◌, ◌++◌, length, map, get_or, take, refl, sym, ap, ◌∙◌, add-one}
use Rattle.std.specs.Prelude.{⊤, not, false}
use Rattle.std.proofs.lemmas.List.{append_assoc, append-nil, get_or_at, length_push, take_at}
use Rattle.listed.specs.Below.{join_below}
use Rattle.refusals.specs.Faults.{where_so}
use Rattle.refusals.proofs.FirstFaults.{BeginsWith}
use Rattle.texts.specs.Lines.{behind_lines, lines_of}
use Rattle.named_net.specs.Naming.{Named}
use Rattle.plan_file.specs.Lines.{Line, Head, OfSignal, OfRun, End, Other, Nothing, Cut, ending, line_of, lines_in}
use Rattle.plan_file.specs.Refusals.{faults_at, faults_by, faults_of, may_stand}
use Rattle.plan_file.specs.declared.fault.PlanFault.{PlanFault}
use Rattle.plan_file.specs.declared.fault.PlanFault.TheVariants.{Form}
use Rattle.plan_file.proofs.LineLaws.{Fits, line_fits}

-- ---- the end of a text

-- what may stand behind the last line feed, and what before it
abbrev pub IsLast : Line → Type 0
IsLast Nothing = ⊤
IsLast Cut = ⊤
IsLast line = ⊥

abbrev pub IsInner : Line → Type 0
IsInner Nothing = ⊥
IsInner Cut = ⊥
IsInner line = ⊤

-- lines with their end
abbrev pub IsTail : List Line → Type 0
IsTail [] = ⊥
IsTail (line ∷ []) = IsLast line
IsTail (line ∷ next ∷ lines) = IsInner line × IsTail (next ∷ lines)

line_is_inner : (bytes : List ℕ) (line : Line) → Fits bytes line → IsInner line
line_is_inner bytes Head fits = tt
line_is_inner bytes (OfSignal name) fits = tt
line_is_inner bytes (OfRun phase green) fits = tt
line_is_inner bytes End fits = tt
line_is_inner bytes Other fits = tt
line_is_inner bytes Nothing fits = fits
line_is_inner bytes Cut fits = fits

ending_is_last : (text : List ℕ) → IsLast (ending text)
ending_is_last [] = tt
ending_is_last (byte ∷ bytes) = tt

lines_before : (lines : List (List ℕ)) (last : Line) → IsLast last → IsTail (map line_of lines ++ last ∷ [])
lines_before [] last is = is
lines_before (line ∷ []) last is = (line_is_inner line (line_of line) (line_fits line), is)
lines_before (line ∷ next ∷ more) last is = (line_is_inner line (line_of line) (line_fits line), lines_before (next ∷ more) last is)

pub lines_tail : (text : List ℕ) → IsTail (lines_in text)
unfolding lines_in
lines_tail text = lines_before (lines_of text) (ending (behind_lines text)) (ending_is_last (behind_lines text))

-- what stands behind a line
not_both : (line : Line) → IsInner line → IsLast line → ⊥
not_both Head inner last = last
not_both (OfSignal name) inner last = last
not_both (OfRun phase green) inner last = last
not_both End inner last = last
not_both Other inner last = last
not_both Nothing inner last = inner
not_both Cut inner last = inner

pub tail_after : (line : Line) (lines : List Line) → IsInner line → IsTail (line ∷ lines) → IsTail lines
tail_after line [] inner tail = absurd (not_both line inner tail)
tail_after line (next ∷ lines) inner tail = tail.1

-- ---- faults in turn

-- the faults of a line with a number behind others
abbrev pub line_faults : Named → List Line → ℕ → Line → List PlanFault
line_faults named before n line = where_so (not (may_stand before line)) (Form n) ++ faults_by named before n line

-- the faults of the lines that are left
abbrev pub rest_faults : Named → ℕ → List Line → List Line → List PlanFault
rest_faults named n before [] = []
rest_faults named n before (line ∷ lines) = line_faults named before n line ++ rest_faults named (n + 1) (before ++ line ∷ []) lines

faults_in_turn : (named : Named) (lines before rest : List Line) → before ++ rest ≡ lines →
    join_below (length lines) (faults_at named lines) ≡ join_below (length before) (faults_at named lines) ++ rest_faults named (length before + 1) before rest
unfolding join_below
faults_in_turn named lines before [] whole =
    ap (λ lines. join_below (length lines) (faults_at named lines)) (sym whole ∙ append-nil before)
    ∙ ap (λ all. join_below (length before) (faults_at named all)) (sym (append-nil before) ∙ whole)
    ∙ sym (append-nil (join_below (length before) (faults_at named lines)))
faults_in_turn named lines before (line ∷ rest) whole =
    let here : get_or lines (length before) Nothing ≡ line = ap (λ all. get_or all (length before) Nothing) (sym whole) ∙ get_or_at before line rest Nothing (length before) refl in
    let front : take (length before) lines ≡ before = ap (take (length before)) (sym whole) ∙ take_at before (line ∷ rest) (length before) refl in
    let faults : faults_at named lines (length before) ≡ line_faults named before (length before + 1) line =
    ap (λ front. line_faults named front (length before + 1) (get_or lines (length before) Nothing)) front
    ∙ ap (line_faults named before (length before + 1)) here in
    let count : length (before ++ line ∷ []) ≡ length before + 1 = length_push before line in
    let after = faults_in_turn named lines (before ++ line ∷ []) rest (append_assoc before (line ∷ []) rest ∙ whole) in
    after
    ∙ ap (λ n. join_below n (faults_at named lines) ++ rest_faults named (n + 1) (before ++ line ∷ []) rest) (count ∙ add-one (length before))
    ∙ ap (λ faults. (join_below (length before) (faults_at named lines) ++ faults) ++ rest_faults named (suc (length before) + 1) (before ++ line ∷ []) rest) faults
    ∙ append_assoc (join_below (length before) (faults_at named lines)) (line_faults named before (length before + 1) line) (rest_faults named (suc (length before) + 1) (before ++ line ∷ []) rest)
    ∙ ap (λ n. join_below (length before) (faults_at named lines) ++ (line_faults named before (length before + 1) line ++ rest_faults named (n + 1) (before ++ line ∷ []) rest)) (sym (add-one (length before)))

-- all faults of a text's lines
pub faults_of-in_turn : (named : Named) (lines : List Line) → faults_of named lines ≡ rest_faults named 1 [] lines
unfolding faults_of join_below
faults_of-in_turn named lines = faults_in_turn named lines [] lines refl

-- the faults begin with those of the first line
pub begins_left : {X : Type 0} (x : X) (xs ys : List X) → BeginsWith x xs → BeginsWith x (xs ++ ys)
begins_left x xs ys begins = (begins.0 ++ ys, ap (λ xs. xs ++ ys) begins.1)

-- or with those of the others, where it has none
pub begins_right : {X : Type 0} (x : X) (xs ys : List X) → xs ≡ [] → BeginsWith x ys → BeginsWith x (xs ++ ys)
begins_right x xs ys none begins = (begins.0, ap (λ xs. xs ++ ys) none ∙ begins.1)

-- a line that may not stand there is at fault
pub form_is_first : (named : Named) (n : ℕ) (before : List Line) (line : Line) (lines : List Line) → may_stand before line ≡ false → BeginsWith (Form n) (rest_faults named n before (line ∷ lines))
form_is_first named n before line lines cannot =
    begins_left (Form n) (line_faults named before n line) (rest_faults named (n + 1) (before ++ line ∷ []) lines)
    (faults_by named before n line, ap (λ may. where_so (not may) (Form n) ++ faults_by named before n line) cannot)
