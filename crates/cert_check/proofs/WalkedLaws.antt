-- Laws of texts that are walked in pieces: what is walked of a text stays walked where more bytes come.
use Rattle.std.proofs.Common.{◌≡◌, ℕ, ◌+◌, ◌==◌, ◌<◌, ◌≤◌, ◌^◌, Bool, true, false, List, [], ◌∷◌, ◌++◌, length, inl, inr, refl, sym, ap, ◌∙◌, subst, arith, append_assoc}
use Rattle.std.proofs.lemmas.List.{append-nil, length-append}
use Rattle.std.proofs.lemmas.List.Elements.{All-append, All-nil}
use Rattle.texts.specs.Lines.{Lacks, behind_lines, lines_of, text_of_lines}
use Rattle.texts.proofs.LineLaws.{behind_lines-feed, behind_lines-none, behind_lines-text, behind_lines_lacks, lines_lack, lines_of-feed, lines_of-none, lines_of-text, text_of_lines-read}
use Rattle.ct_base.specs.declared.net.Net.{Net}
use Rattle.sparse_program.specs.Box.{Ranges}
use Rattle.sparse_program.specs.Program.{Parts}
use Rattle.certificate_model.specs.Verdicts.{After, AtHead, Broken, IsVerdict, Reaches, Standing, verdict_at}
use Rattle.certificate_model.specs.declared.verdict.Verdict.{Verdict}
use Rattle.certificate_model.specs.declared.verdict.Why.{Why}
use Rattle.certificate_model.specs.declared.constants.TheConstants.{MAX_CERTIFICATE_BYTES}
use Rattle.cert_check.specs.Fed.{IsFed}
use Rattle.cert_format.specs.Unfinished.{Kept, ReadsAs}
use Rattle.cert_check.specs.declared.pieces.Checker.{Checker}
use Rattle.cert_check.specs.declared.line_checker.LineChecker.{LineChecker}
use Rattle.cert_check.specs.declared.state.State.{State}
use Rattle.cert_check.specs.declared.state.State.TheVariants as state
use Rattle.cert_check.specs.inner.Standings.{IsCheckerOf, is_broken, standing_at, standing_of}
use Rattle.cert_check.specs.inner.Walked.{HasWalked}
use Rattle.cert_check.specs.inner.Walks.{boxes_of}
use Rattle.cert_format.proofs.UnfinishedLaws.{reads_as_itself}
use Rattle.cert_check.proofs.KeptLines.{after_kept, none_of_none, verdict_of_kept}

-- ---- lines of two texts, one behind the other

-- more bytes go on with what stands behind the last line feed
pub lines_of-append : (text more : List ℕ) → lines_of (text ++ more) ≡ lines_of text ++ lines_of (behind_lines text ++ more)
lines_of-append text more =
    ap (λ (whole : List ℕ). lines_of (whole ++ more)) (sym (text_of_lines-read text))
    ∙ ap lines_of (append_assoc (text_of_lines (lines_of text)) (behind_lines text) more)
    ∙ lines_of-text (lines_of text) (behind_lines text ++ more) (lines_lack text)

pub behind_lines-append : (text more : List ℕ) → behind_lines (text ++ more) ≡ behind_lines (behind_lines text ++ more)
behind_lines-append text more =
    ap (λ (whole : List ℕ). behind_lines (whole ++ more)) (sym (text_of_lines-read text))
    ∙ ap behind_lines (append_assoc (text_of_lines (lines_of text)) (behind_lines text) more)
    ∙ behind_lines-text (lines_of text) (behind_lines text ++ more) (lines_lack text)

-- each line ends with a byte of its own
few_lines : (lines : List (List ℕ)) → length lines ≤ length (text_of_lines lines)
few_lines [] = omega arith
few_lines (line ∷ lines) =
    omega (arith, few_lines lines, length-append (line ++ 10 ∷ []) (text_of_lines lines), length-append line (10 ∷ []))

lines_are_few : (text : List ℕ) → length (lines_of text) ≤ length text
lines_are_few text =
    omega (arith, few_lines (lines_of text), ap length (text_of_lines-read text), length-append (text_of_lines (lines_of text)) (behind_lines text))

-- ---- what comes behind some lines, and then behind others

reaches_further : (net : Net) (n : ℕ) (first middle last : Standing) (lines more : List (List ℕ)) →
    Reaches net n first lines middle → Reaches net (n + length lines) middle more last → Reaches net n first (lines ++ more) last
reaches_further net n first middle last [] more reached further =
    let here : n + length {A = List ℕ} [] ≡ n = omega arith in
    subst (λ (standing : Standing). Reaches net n standing more last) reached (subst (λ (n : ℕ). Reaches net n middle more last) here further)
reaches_further net n first middle last (line ∷ lines) more (after, (is, reached)) further =
    let there : n + length (line ∷ lines) ≡ n + 1 + length lines = omega arith in
    (after, (is, reaches_further net (n + 1) after middle last lines more reached (subst (λ (n : ℕ). Reaches net n middle more last) there further)))

-- a line broke
record HasBroken (standing : Standing) : Type 0 where
  line : ℕ
  why : Why
  is : standing ≡ Broken line why

has_broken : (state : State) (boxes : List Ranges) → is_broken state ≡ true → HasBroken (standing_at state boxes)
has_broken (state.Broken line why) boxes is = record { line = line; why = why; is = refl }
has_broken state.Head boxes is = absurd (cc)
has_broken state.Bound boxes is = absurd (cc)
has_broken (state.Nodes bound) boxes is = absurd (cc)
has_broken (state.Complete bound) boxes is = absurd (cc)
has_broken (state.End bound) boxes is = absurd (cc)

-- and so it is where what has to come next is the same
broken_state : (state : State) (boxes : List Ranges) → HasBroken (standing_at state boxes) → is_broken state ≡ true
broken_state (state.Broken line why) boxes broken = refl
broken_state state.Head boxes broken = let is = broken.is in absurd (cc)
broken_state state.Bound boxes broken = let is = broken.is in absurd (cc)
broken_state (state.Nodes bound) boxes broken = let is = broken.is in absurd (cc)
broken_state (state.Complete bound) boxes broken = let is = broken.is in absurd (cc)
broken_state (state.End bound) boxes broken = let is = broken.is in absurd (cc)

-- behind a line that broke each line leaves things as they are
stays_broken : (net : Net) (n at : ℕ) (why : Why) (lines : List (List ℕ)) → Reaches net n (Broken at why) lines (Broken at why)
stays_broken net n at why [] = refl
stays_broken net n at why (line ∷ lines) = (Broken at why, (refl, stays_broken net (n + 1) at why lines))

-- so whatever lines come, where a line broke
broken_reaches : (net : Net) (n : ℕ) (standing : Standing) (lines : List (List ℕ)) → HasBroken standing → Reaches net n standing lines standing
broken_reaches net n standing lines broken =
    subst (λ (standing : Standing). Reaches net n standing lines standing) (sym broken.is) (stays_broken net n broken.line broken.why lines)

-- a checker of lines of which one broke has come to the end of all others
pub broken_checker : (net : Net) (n : ℕ) (checker : LineChecker) (lines : List (List ℕ)) → is_broken checker.state ≡ true → Reaches net n (standing_of checker) lines (standing_of checker)
broken_checker net n checker lines broke = broken_reaches net n (standing_of checker) lines (has_broken checker.state (boxes_of checker.walk) broke)

-- and nothing else comes behind them
broken_last : (net : Net) (n : ℕ) (standing : Standing) (lines : List (List ℕ)) (last : Standing) → HasBroken standing → Reaches net n standing lines last → last ≡ standing
broken_last net n standing [] last broken reached = reached
broken_last net n standing (line ∷ lines) last broken (after, (is, reached)) =
    let same : after ≡ standing = subst (λ (standing : Standing). After net n standing line after) broken.is is ∙ sym broken.is in
    broken_last net (n + 1) standing lines last broken (subst (λ (after : Standing). Reaches net (n + 1) after lines last) same reached)

-- ---- walked texts

-- more bytes are kept: they are read as the line with these bytes behind it is
abbrev pub KeepsMore : Kept → Kept → List ℕ → Type 0
KeepsMore old new bytes = (new.most ≡ old.most) × ((line : List ℕ) → ReadsAs old.most old.bytes line → ReadsAs old.most new.bytes (line ++ bytes))

-- what is kept of no bytes is read as a line that has none
reads_none : (kept : Kept) (line : List ℕ) → kept.bytes ≡ [] → line ≡ [] → ReadsAs kept.most kept.bytes line
reads_none kept line none empty = rw (none, empty) (reads_as_itself kept.most [])

-- before the first piece
pub none_walked : (net : Net) (checker : LineChecker) (kept : Kept) → IsCheckerOf net checker → standing_of checker ≡ AtHead → checker.line ≡ 1 →
    kept.bytes ≡ [] → kept.most ≡ length checker.program.rows + 1 → HasWalked net checker kept []
none_walked net checker kept of standing line none most =
    let lacks : Lacks 10 [] = All-nil (λ x. (x == 10) ≡ false) in
    let no_lines : lines_of [] ≡ [] = lines_of-none [] lacks in
    record {
      of = of;
      reached = subst (λ (lines : List (List ℕ)). Reaches net 1 AtHead lines (standing_of checker)) (sym no_lines) standing;
      number = λ whole. line ∙ sym (ap (λ (lines : List (List ℕ)). length lines + 1) no_lines);
      pairs = most ∙ ap (λ (program : Parts). length program.rows + 1) of.program;
      behind = λ whole. reads_none kept (behind_lines []) none (behind_lines-none [] lacks);
    }

-- what comes behind the lines that more bytes end comes behind those of the whole text
reaches_behind : (net : Net) (checker : LineChecker) (kept : Kept) (text more : List ℕ) (lines : List (List ℕ)) (last : Standing) →
    HasWalked net checker kept text → lines_of (behind_lines text ++ more) ≡ lines →
    Reaches net (1 + length (lines_of text)) (standing_of checker) lines last → Reaches net 1 AtHead (lines_of (text ++ more)) last
reaches_behind net checker kept text more lines last walked are further =
    let whole : lines_of (text ++ more) ≡ lines_of text ++ lines = lines_of-append text more ∙ ap (λ (lines : List (List ℕ)). lines_of text ++ lines) are in
    subst (λ (whole : List (List ℕ)). Reaches net 1 AtHead whole last) (sym whole)
    (reaches_further net 1 AtHead (standing_of checker) last (lines_of text) lines walked.reached further)

-- behind a line that broke more bytes change nothing
pub broken_walked : (net : Net) (checker : LineChecker) (kept : Kept) (text more : List ℕ) →
    HasWalked net checker kept text → is_broken checker.state ≡ true → HasWalked net checker kept (text ++ more)
broken_walked net checker kept text more walked broke = record {
  of = walked.of;
  reached = reaches_behind net checker kept text more (lines_of (behind_lines text ++ more)) (standing_of checker) walked refl
      (broken_checker net (1 + length (lines_of text)) checker (lines_of (behind_lines text ++ more)) broke);
  number = λ whole. absurd (cc);
  pairs = walked.pairs;
  behind = λ whole. absurd (cc);
}

-- bytes that hold no line feed go on with the line that is not finished
pub kept_walked : (net : Net) (checker : LineChecker) (old new : Kept) (text more : List ℕ) →
    HasWalked net checker old text → Lacks 10 more → KeepsMore old new more → HasWalked net checker new (text ++ more)
kept_walked net checker old new text more walked lacks (most, keeps) =
    let line : List ℕ = behind_lines text ++ more in
    let none : Lacks 10 line = All-append (λ x. (x == 10) ≡ false) (behind_lines text) more (behind_lines_lacks text) lacks in
    let same : lines_of (text ++ more) ≡ lines_of text =
    lines_of-append text more ∙ ap (λ (lines : List (List ℕ)). lines_of text ++ lines) (lines_of-none line none) ∙ append-nil (lines_of text) in
    let last : behind_lines (text ++ more) ≡ line = behind_lines-append text more ∙ behind_lines-none line none in
    record {
      of = walked.of;
      reached = subst (λ (lines : List (List ℕ)). Reaches net 1 AtHead lines (standing_of checker)) (sym same) walked.reached;
      number = λ whole. walked.number whole ∙ sym (ap (λ (lines : List (List ℕ)). length lines + 1) same);
      pairs = most ∙ walked.pairs;
      behind = λ whole. rw (most, last) (keeps (behind_lines text) (walked.behind whole));
    }

-- the line feed of the line that is not finished
pub line_walked : (net : Net) (before behind : LineChecker) (old added new : Kept) (text bytes : List ℕ) →
    HasWalked net before old text → is_broken before.state ≡ false → Lacks 10 bytes → KeepsMore old added bytes →
    IsCheckerOf net behind → After net before.line (standing_of before) added.bytes (standing_of behind) → behind.line ≡ before.line + 1 →
    new.bytes ≡ [] → new.most ≡ added.most → HasWalked net behind new (text ++ (bytes ++ 10 ∷ []))
line_walked net before behind old added new text bytes walked whole lacks (most, keeps) of after next cleared still =
    let line : List ℕ = behind_lines text ++ bytes in
    let none : Lacks 10 line = All-append (λ x. (x == 10) ≡ false) (behind_lines text) bytes (behind_lines_lacks text) lacks in
    let empty : Lacks 10 [] = All-nil (λ x. (x == 10) ≡ false) in
    let ended : behind_lines text ++ (bytes ++ 10 ∷ []) ≡ line ++ 10 ∷ [] = sym (append_assoc (behind_lines text) bytes (10 ∷ [])) in
    let one : lines_of (behind_lines text ++ (bytes ++ 10 ∷ [])) ≡ line ∷ [] =
    ap lines_of ended ∙ lines_of-feed line [] none ∙ ap (λ (lines : List (List ℕ)). line ∷ lines) (lines_of-none [] empty) in
    let number : before.line ≡ 1 + length (lines_of text) = omega (arith, walked.number whole) in
    let is : After net (1 + length (lines_of text)) (standing_of before) line (standing_of behind) =
    subst (λ (n : ℕ). After net n (standing_of before) line (standing_of behind)) number
    (after_kept net before.line old.most (standing_of before) added.bytes line (standing_of behind) walked.pairs (keeps (behind_lines text) (walked.behind whole)) after) in
    let more : length (lines_of (text ++ (bytes ++ 10 ∷ []))) ≡ length (lines_of text) + 1 =
    ap length (lines_of-append text (bytes ++ 10 ∷ []) ∙ ap (λ (lines : List (List ℕ)). lines_of text ++ lines) one) ∙ length-append (lines_of text) (line ∷ []) in
    record {
      of = of;
      reached = reaches_behind net before old text (bytes ++ 10 ∷ []) (line ∷ []) (standing_of behind) walked one (standing_of behind, (is, refl));
      number = λ still. omega (arith, next, number, more);
      pairs = still ∙ most ∙ walked.pairs;
      behind = λ still. reads_none new (behind_lines (text ++ (bytes ++ 10 ∷ []))) cleared
          (behind_lines-append text (bytes ++ 10 ∷ []) ∙ ap behind_lines ended ∙ behind_lines-feed line [] none ∙ behind_lines-none [] empty);
    }

-- some lines, where none has begun
pub lines_walked : (net : Net) (before behind : LineChecker) (old new : Kept) (text bytes last : List ℕ) → old.bytes ≡ [] → KeepsMore old new last →
    HasWalked net before old text → IsCheckerOf net behind → Reaches net before.line (standing_of before) (lines_of bytes) (standing_of behind) →
    (is_broken behind.state ≡ false → behind.line ≡ before.line + length (lines_of bytes)) → (is_broken behind.state ≡ false → last ≡ behind_lines bytes) →
    HasWalked net behind new (text ++ bytes)
lines_walked net before behind old new text bytes last none (most, keeps) walked of reached number is_last =
    by_case (is_broken before.state) refl
  where
    by_case : (b : Bool) → is_broken before.state ≡ b → HasWalked net behind new (text ++ bytes)
    by_case true broke =
        let broken : HasBroken (standing_of before) = has_broken before.state (boxes_of before.walk) broke in
        let same : standing_of behind ≡ standing_of before = broken_last net before.line (standing_of before) (lines_of bytes) (standing_of behind) broken reached in
        let still : is_broken behind.state ≡ true = broken_state behind.state (boxes_of behind.walk) (subst HasBroken (sym same) broken) in
        record {
          of = of;
          reached = reaches_behind net before old text bytes (lines_of (behind_lines text ++ bytes)) (standing_of behind) walked refl
              (subst (λ (last : Standing). Reaches net (1 + length (lines_of text)) (standing_of before) (lines_of (behind_lines text ++ bytes)) last) (sym same)
              (broken_checker net (1 + length (lines_of text)) before (lines_of (behind_lines text ++ bytes)) broke));
          number = λ whole. absurd (cc);
          pairs = most ∙ walked.pairs;
          behind = λ whole. absurd (cc);
        }
    by_case false whole =
        let empty : behind_lines text ≡ [] =
        none_of_none old.most (behind_lines text) (subst (λ (kept : List ℕ). ReadsAs old.most kept (behind_lines text)) none (walked.behind whole)) in
        let begun : behind_lines text ++ bytes ≡ bytes = ap (λ (line : List ℕ). line ++ bytes) empty in
        let at : before.line ≡ 1 + length (lines_of text) = omega (arith, walked.number whole) in
        let more : length (lines_of (text ++ bytes)) ≡ length (lines_of text) + length (lines_of bytes) =
        ap length (lines_of-append text bytes ∙ ap (λ (line : List ℕ). lines_of text ++ lines_of line) begun) ∙ length-append (lines_of text) (lines_of bytes) in
        let read : ReadsAs old.most new.bytes last = keeps [] (reads_none old [] none refl) in
        record {
          of = of;
          reached = reaches_behind net before old text bytes (lines_of bytes) (standing_of behind) walked (ap lines_of begun)
              (subst (λ (n : ℕ). Reaches net n (standing_of before) (lines_of bytes) (standing_of behind)) at reached);
          number = λ still. omega (arith, number still, at, more);
          pairs = most ∙ walked.pairs;
          behind = λ still. rw (most, behind_lines-append text bytes ∙ ap behind_lines begun ∙ sym (is_last still)) read;
        }

-- the verdict of a walked text
pub verdict_of_walked : (net : Net) (checker : LineChecker) (kept : Kept) (text : List ℕ) (verdict : Verdict) →
    HasWalked net checker kept text → verdict ≡ verdict_at (standing_of checker) checker.line kept.bytes → IsVerdict net text verdict
verdict_of_walked net checker kept text verdict walked is =
    record { last = standing_of checker; reached = walked.reached; is = is ∙ by_case (is_broken checker.state) refl }
  where
    by_case : (b : Bool) → is_broken checker.state ≡ b →
        verdict_at (standing_of checker) checker.line kept.bytes ≡ verdict_at (standing_of checker) (length (lines_of text) + 1) (behind_lines text)
    by_case true broke =
        let broken : HasBroken (standing_of checker) = has_broken checker.state (boxes_of checker.walk) broke in
        rw broken.is refl
    by_case false whole =
        ap (λ (n : ℕ). verdict_at (standing_of checker) n kept.bytes) (walked.number whole)
        ∙ verdict_of_kept (standing_of checker) (length (lines_of text) + 1) kept.bytes (behind_lines text) (walked.behind whole).none

-- the number of a line has room for one more for each byte that may come
pub number_has_room : (net : Net) (checker : Checker) (count : ℕ) → IsFed net checker → checker.failed ≡ false → checker.taken + count ≤ MAX_CERTIFICATE_BYTES →
    is_broken checker.lines.state ≡ false → checker.lines.line + count < 2 ^ 64
number_has_room net checker count (inl (text, stands)) lasts short whole =
    omega (arith, stands.walked.number whole, lines_are_few text, stands.taken, short)
number_has_room net checker count (inr failed) lasts short whole = absurd (cc)
