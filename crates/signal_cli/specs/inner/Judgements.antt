-- What a certificate comes to, which is judged while it is read, and what the reading keeps.
use Rattle.std.specs.Prelude.{◌≡◌, ℕ, ◌+◌, ◌≤◌, List, length, Option, Result, Ok, Err}
use Rattle.ct_base.specs.declared.net.Net.{Net}
use Rattle.shelf_io.specs.Told.{Files, IfTold, ShelfState}
use Rattle.shelf_io.specs.inner.Pieces.{IsFrontOf}
use Rattle.certificate_model.specs.Verdicts.{IsVerdict}
use Rattle.certificate_model.specs.declared.constants.TheConstants.{MAX_CERTIFICATE_BYTES}
use Rattle.cert_check.specs.Fed.{StandsFor, taken_of}
use Rattle.cert_check.specs.declared.pieces.Checker.{Checker}
use Rattle.signal_cli.specs.Answers.{content_in, rejection}
use Rattle.signal_cli.specs.RejectionLines.{long_lines}
use Rattle.certificate_model.specs.declared.verdict.Verdict.{Verdict}
use Rattle.signal_cli.specs.inner.Causes.{Finds}
use Rattle.signal_cli.specs.declared.certificate.Judgement.{Judgement}
use Rattle.signal_cli.specs.declared.certificate.Judgement.TheVariants as judged
use Rattle.signal_cli.specs.declared.fault.Fault.{Fault}
use Rattle.signal_cli.specs.declared.input.Content.{Content}
use Rattle.signal_cli.specs.declared.input.Content.TheVariants.{TooLong, Whole}
use Rattle.signal_cli.specs.declared.reply.Reply.{Reply}

-- a file that holds this comes to that as a certificate: it is too long, or has a verdict
abbrev pub IsJudgementOf : Net → Content → Judgement → Type 0
IsJudgementOf net TooLong judged.TooLong = Unit {0}
IsJudgementOf net (Whole bytes) (judged.Whole verdict) = IsVerdict net bytes verdict
IsJudgementOf net content judgement = ⊥

-- what the named file holds as a certificate was found, and it comes to this; or a fault was found in its place
abbrev pub FindsJudged : Net → List ℕ → Result Judgement Fault → ShelfState → ShelfState → Type 0
FindsJudged net name (Ok judgement) before after =
    (content : Content) × Finds (λ files outcome. content_in files name MAX_CERTIFICATE_BYTES ≡ outcome) (Ok content) before after × IsJudgementOf net content judgement
FindsJudged net name (Err fault) before after = Finds (λ files outcome. content_in files name MAX_CERTIFICATE_BYTES ≡ outcome) (Err fault) before after

-- what is answered to a certificate, if this is answered to a verdict
abbrev pub answer_to : (Verdict → Reply) → Judgement → Reply
answer_to answer judged.TooLong = rejection long_lines
answer_to answer (judged.Whole verdict) = answer verdict

-- the checker stands for the front of the told file
pub record IsReading (net : Net) (told : Option Files) (name : List ℕ) (checker : Checker) : Type 0 where
  pub text : List ℕ
  pub stands : StandsFor net checker text
  pub within : length text ≤ MAX_CERTIFICATE_BYTES
  pub front : IsFrontOf told name text

-- the checker stands for the whole of the told file
pub record HasRead (net : Net) (told : Option Files) (name : List ℕ) (checker : Checker) : Type 0 where
  pub text : List ℕ
  pub stands : StandsFor net checker text
  pub within : length text ≤ MAX_CERTIFICATE_BYTES
  pub whole : IfTold told name (λ bytes. text ≡ bytes)

-- a checker that stood for a front of the told file was fed the k bytes behind it: none only where the front is the whole file
pub record HasFed (net : Net) (told : Option Files) (name : List ℕ) (before : Checker) (k : ℕ) (after : Checker) : Type 0 where
  pub reading : IsReading net told name after
  pub taken : taken_of after ≡ taken_of before + k
  pub whole : k ≡ 0 → HasRead net told name after
