-- A certificate that is read piece by piece, and what it comes to.
use Rattle.std.proofs.Common.{◌≡◌, ℕ, ◌+◌, ◌<◌, ◌≤◌, List, [], ◌++◌, length, take, arith, ◌∙◌, refl, inl, inr, lit≤, length-append, Option, Some, None, MatchOption, Ok}
use Rattle.std.proofs.lemmas.List.{take_all, length-take-le}
use Rattle.ct_base.specs.declared.net.Net.{Net}
use Rattle.shelf_io.specs.Told.{Files, IfTold, ReadsFrom, ShelfState, bytes_of}
use Rattle.shelf_io.specs.inner.Pieces.{IsFrontOf}
use Rattle.shelf_io.proofs.Fronts.{told_front_more}
use Rattle.certificate_model.specs.Verdicts.{IsVerdict}
use Rattle.certificate_model.specs.declared.constants.TheConstants.{MAX_CERTIFICATE_BYTES}
use Rattle.certificate_model.specs.declared.verdict.Verdict.{Verdict}
use Rattle.cert_check.specs.Fed.{StandsFor, taken_of}
use Rattle.cert_check.specs.declared.pieces.Checker.{Checker}
use Rattle.signal_cli.specs.Answers.{IsJudged}
use Rattle.signal_cli.specs.inner.Judgements.{FindsJudged, HasFed, HasRead, IsJudgementOf, IsReading, answer_to}
use Rattle.signal_cli.specs.declared.certificate.Judgement.{Judgement}
use Rattle.signal_cli.specs.declared.certificate.Judgement.TheVariants as judged
use Rattle.signal_cli.specs.declared.input.Content.{Content}
use Rattle.signal_cli.specs.declared.input.Content.TheVariants.{TooLong, Whole}
use Rattle.signal_cli.specs.declared.reply.Reply.{Reply}
use Rattle.signal_cli.proofs.Reading.{whole_seen}

-- no byte is the front of every file
front_of_none : (told : Option Files) (name : List ℕ) → IsFrontOf told name []
front_of_none None name = tt
front_of_none (Some files) name =
    elim (bytes_of files name) as (λ found. MatchOption found (Unit {0}) (λ bytes. [] ≡ take 0 bytes)) [
      | None ↦ tt
      | Some bytes ↦ refl
    ]

-- a front of a file that is there is the front where it may not be there
front_told : (told : Option Files) (name read : List ℕ) → IfTold told name (λ bytes. read ≡ take (length read) bytes) → IsFrontOf told name read
front_told None name read known = tt
front_told (Some files) name read known =
    elim (bytes_of files name) as (λ found. MatchOption found ⊥ (λ bytes. read ≡ take (length read) bytes) → MatchOption found (Unit {0}) (λ bytes. read ≡ take (length read) bytes)) [
      | None ↦ λ none. tt
      | Some bytes ↦ λ known. known
    ] known

-- two facts of a told file
told_both : (told : Option Files) (name : List ℕ) (P Q R : List ℕ → Type 0) → ((bytes : List ℕ) → P bytes → Q bytes → R bytes) → IfTold told name P → IfTold told name Q → IfTold told name R
told_both None name P Q R each first second = tt
told_both (Some files) name P Q R each first second =
    elim (bytes_of files name) as (λ found. MatchOption found ⊥ P → MatchOption found ⊥ Q → MatchOption found ⊥ R) [
      | None ↦ λ none _. none
      | Some bytes ↦ λ first second. each bytes first second
    ] first second

-- before the first byte a checker stands for the front of every file
pub reading_none : (net : Net) (told : Option Files) (name : List ℕ) (checker : Checker) → StandsFor net checker [] → IsReading net told name checker
reading_none net told name checker stands = record {
  text = [];
  stands = stands;
  within = lit≤ tt;
  front = front_of_none told name;
}

-- a front that goes as far as a read at which the file ended is the whole
whole_front : (bytes front buffer : List ℕ) (at : ℕ) → front ≡ take (length front) bytes → at ≤ length front → 0 < length buffer → ReadsFrom bytes at 0 buffer → front ≡ bytes
whole_front bytes front buffer at is far room piece =
    elim (piece.ends refl) [
      | inl empty ↦ absurd (omega arith)
      | inr ended ↦ is ∙ take_all (length front) bytes (omega arith)
    ]

-- a checker was fed the bytes that were read where its text ends
pub has_fed : (net : Net) (told : Option Files) (name buffer : List ℕ) (k : ℕ) (before after : Checker) (reading : IsReading net told name before) → 0 < length buffer → k ≤ length buffer → taken_of before + k ≤ MAX_CERTIFICATE_BYTES → IfTold told name (λ bytes. ReadsFrom bytes (taken_of before) k buffer) → StandsFor net after (reading.text ++ take k buffer) → HasFed net told name before k after
has_fed net told name buffer k before after reading room fits few piece stands =
    let text : List ℕ = reading.text ++ take k buffer in
    let long : length text ≡ taken_of before + k = omega (arith, length-append reading.text (take k buffer), length-take-le k buffer fits, reading.stands.taken) in
    let within : length text ≤ MAX_CERTIFICATE_BYTES = omega arith in
    let P : List ℕ → Type 0 = λ bytes. text ≡ take (length text) bytes in
    let Q : List ℕ → Type 0 = λ bytes. ReadsFrom bytes (taken_of before) k buffer in
    let R : List ℕ → Type 0 = λ bytes. text ≡ bytes in
    let front : IfTold told name P = told_front_more told name reading.text buffer (taken_of before) k reading.stands.taken reading.front piece fits in record {
      reading = record {
        text = text;
        stands = stands;
        within = within;
        front = front_told told name text front;
      };
      taken = stands.taken ∙ long;
      whole = λ none. record {
        text = text;
        stands = stands;
        within = within;
        whole = told_both told name P Q R (λ bytes is reads. whole_front bytes text buffer (taken_of before) is (omega arith) room (rw none at reads)) front piece;
      };
    }

-- a file that was fed whole comes to the verdict of what the checker stands for
pub whole_judged : (net : Net) (name : List ℕ) (checker : Checker) (verdict : Verdict) (before after : ShelfState) → HasRead net before.files name checker → ((text : List ℕ) → StandsFor net checker text → IsVerdict net text verdict) → after ≡ before → FindsJudged net name (Ok (judged.Whole verdict)) before after
whole_judged net name checker verdict before after read is same =
    (Whole read.text, (same, whole_seen before.files name read.text MAX_CERTIFICATE_BYTES read.within read.whole), is read.text read.stands)

-- the reply that is given to what a file comes to is due to what it holds
pub is_judged : (net : Net) (answer : Verdict → Reply) (content : Content) (judgement : Judgement) → IsJudgementOf net content judgement → IsJudged net answer content (answer_to answer judgement)
is_judged net answer TooLong judged.TooLong is = refl
is_judged net answer (Whole bytes) (judged.Whole verdict) is = (verdict, is, refl)
is_judged net answer TooLong (judged.Whole verdict) is = absurd is
is_judged net answer (Whole bytes) judged.TooLong is = absurd is
