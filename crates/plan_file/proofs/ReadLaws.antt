-- From the first line to what the whole text spells.
use Rattle.std.proofs.Common.{◌≡◌, ℕ, true, false, List, [], ◌∷◌, Result, Ok, Err, refl, sym, ap, subst, ◌∙◌}
use Rattle.std.specs.Prelude.{IfOk, codes}
use Rattle.std.specs.Str.{bytes_eq}
use Rattle.std.proofs.lemmas.Bool.{cond-true, true≢false}
use Rattle.std.proofs.lemmas.Slice.Eq.{bytes_eq-Decides}
use Rattle.refusals.specs.Memory.{OrMemory}
use Rattle.refusals.proofs.Memory.{made_is_deserved}
use Rattle.ct_base.specs.declared.plan.Plan.{Plan}
use Rattle.traffic_model.specs.Runs.{IsAdmissiblePlan}
use Rattle.texts.specs.Lines.{IsFirstLine, IsNoLine, words_of}
use Rattle.named_net.specs.Naming.{IsNamed, Named}
use Rattle.plan_file.specs.Lines.{Line, Head, OfSignal, OfRun, End, Other, Nothing, Cut, ending, line_by, line_of, lines_in}
use Rattle.plan_file.specs.inner.Scan.{at_first, scan, scanned}
use Rattle.plan_file.specs.Spelled.{spelled_plan}
use Rattle.plan_file.specs.declared.fault.PlanFault.{PlanFault}
use Rattle.plan_file.specs.declared.fault.PlanFault.TheVariants.{Form, Memory}
use Rattle.plan_file.proofs.LineLaws.{Fits, line_fits, lines_in-first, lines_in-none}
use Rattle.plan_file.proofs.PassLaws.{spelled_is_scanned}
use Rattle.plan_file.proofs.SpellLaws.{spells_admissible, spells_where_read}

-- the first line is the right one
pub behind_head : (named : Named) (text line behind : List ℕ) → IsNamed named → IsFirstLine text line behind → bytes_eq line (codes "ctm-plan 1") ≡ true →
    spelled_plan named text ≡ scan named 2 at_first (lines_in behind)
behind_head named text line behind valid first is =
    spelled_is_scanned named text valid
    ∙ ap (scanned named) (lines_in-first text line behind first
    ∙ ap (λ line. line ∷ lines_in behind) (cond-true (bytes_eq line (codes "ctm-plan 1")) Head (line_by (words_of line)) is))

pub behind_head_given : (named : Named) (text line behind : List ℕ) (r : Result Plan PlanFault) → IsNamed named → IsFirstLine text line behind → bytes_eq line (codes "ctm-plan 1") ≡ true →
    OrMemory Memory (scan named 2 at_first (lines_in behind)) r → OrMemory Memory (spelled_plan named text) r
behind_head_given named text line behind r valid first is gives = subst (λ spelled. OrMemory Memory spelled r) (sym (behind_head named text line behind valid first is)) gives

-- it is another
other_first : (named : Named) (bytes : List ℕ) (line : Line) (lines : List Line) → Fits bytes line → bytes_eq bytes (codes "ctm-plan 1") ≡ false → scanned named (line ∷ lines) ≡ Err (Form 1)
other_first named bytes Head lines fits other = absurd (true≢false (sym ((bytes_eq-Decides bytes (codes "ctm-plan 1")).1 fits) ∙ other))
other_first named bytes (OfSignal name) lines fits other = refl
other_first named bytes (OfRun phase green) lines fits other = refl
other_first named bytes End lines fits other = refl
other_first named bytes Other lines fits other = refl
other_first named bytes Nothing lines fits other = absurd fits
other_first named bytes Cut lines fits other = absurd fits

pub another_first_line : (named : Named) (text line behind : List ℕ) → IsNamed named → IsFirstLine text line behind → bytes_eq line (codes "ctm-plan 1") ≡ false → spelled_plan named text ≡ Err (Form 1)
another_first_line named text line behind valid first other =
    spelled_is_scanned named text valid
    ∙ ap (scanned named) (lines_in-first text line behind first)
    ∙ other_first named line (line_of line) (lines_in behind) (line_fits line) other

-- there is none
none_first : (named : Named) (text : List ℕ) → scanned named (ending text ∷ []) ≡ Err (Form 1)
none_first named [] = refl
none_first named (byte ∷ bytes) = refl

pub no_first_line : (named : Named) (text : List ℕ) → IsNamed named → IsNoLine text → spelled_plan named text ≡ Err (Form 1)
no_first_line named text valid none = spelled_is_scanned named text valid ∙ ap (scanned named) (lines_in-none text none) ∙ none_first named text

-- a plan that is read is admissible
pub read_is_admissible : (named : Named) (text : List ℕ) (r : Result Plan PlanFault) → IsNamed named → OrMemory Memory (spelled_plan named text) r → IfOk r (IsAdmissiblePlan named.net)
read_is_admissible named text (Ok plan) valid given =
    spells_admissible named text plan valid (spells_where_read named text plan valid (made_is_deserved Memory (spelled_plan named text) (Ok plan) plan given refl))
read_is_admissible named text (Err fault) valid given = tt
