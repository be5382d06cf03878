-- What the parts of the checker mean, joined.
use Rattle.std.proofs.Common.{◌≡◌, ℕ, Bool, true, false, [], ◌∷◌, Option, inl, inr, Err, refl, sym, ◌∙◌, ap, subst, take}
use Rattle.std.specs.Prelude.{IfSome}
use Rattle.refusals.specs.Faults.{unless, where_so}
use Rattle.refusals.specs.Memory.{OrMemory}
use Rattle.ct_base.specs.declared.net.Net.{Net}
use Rattle.sparse_program.specs.Program.{Parts}
use Rattle.program_model.specs.Numbers.{plan_count}
use Rattle.program_model.specs.Points.{program_of}
use Rattle.lo_program.specs.Compiled.{compiled, size_faults}
use Rattle.lo_program.specs.declared.fault.CompileFault.{CompileFault}
use Rattle.lo_program.specs.declared.fault.CompileFault.TheVariants.{TooLarge, Memory}
use Rattle.cert_check.specs.declared.known.Replayed.{Replayed}
use Rattle.cert_check.specs.declared.walk.Walk.{Walk}
use Rattle.cert_check.specs.inner.Known.{FixesDelay, IsKnown, IsReplayed}
use Rattle.cert_check.specs.inner.Walks.{IsStillKnown, StaysKnown}
use Rattle.cert_check.proofs.WalkLaws.{IfSome-at, IfSome-each}

-- the columns of the plan come first in the network's program
plan_cols-program_of : (net : Net) → (program_of net).plan_cols ≡ plan_count net
unfolding program_of
plan_cols-program_of net = refl

-- a delay that is still known is that of the plan which the box fixes, and the plan that was replayed last has its replay
pub still_fixed : (net : Net) (program : Parts) (old new : Walk) → program ≡ program_of net →
    IsKnown net old.costed.box old.known → StaysKnown program.plan_cols old new → IsKnown net new.costed.box new.known
still_fixed net program old new is known stays =
    let plan : program.plan_cols ≡ plan_count net = ap (λ (of : Parts). of.plan_cols) is ∙ plan_cols-program_of net in
    record {
      delay = IfSome-each (FixesDelay net new.costed.box) new.known.delay (λ delay found.
          let kept = IfSome-at (IsStillKnown program.plan_cols old new) new.known.delay delay found stays.delay in
          let before = IfSome-at (FixesDelay net old.costed.box) old.known.delay delay kept.was known.delay in
          record {
            plan = before.plan;
            fixes = record {
              admissible = before.fixes.admissible;
              lows = ap (λ (n : ℕ). take n new.costed.box.lows) (sym plan) ∙ kept.lows ∙ ap (λ (n : ℕ). take n old.costed.box.lows) plan ∙ before.fixes.lows;
              highs = ap (λ (n : ℕ). take n new.costed.box.highs) (sym plan) ∙ kept.highs ∙ ap (λ (n : ℕ). take n old.costed.box.highs) plan ∙ before.fixes.highs;
            };
            is = before.is;
          });
      last = subst (λ (last : Option Replayed). IfSome last (IsReplayed net)) (sym stays.last) known.last;
    }

-- the one fault that there may be is the one that is answered
refused_where : (holds : Bool) (fault answered : CompileFault) (made : Parts) →
    Err answered ≡ unless (where_so holds fault) made → where_so holds fault ≡ answered ∷ []
refused_where true fault answered made is = cc
refused_where false fault answered made is = cc

-- a network that is refused as too large is too large
pub refused_is_large : (net : Net) (fault : CompileFault) (count : ℕ) →
    OrMemory Memory (compiled net) (Err fault) → fault ≡ TooLarge count → size_faults net ≡ TooLarge count ∷ []
unfolding size_faults
refused_is_large net fault count (inl is) large =
    refused_where _ _ fault (program_of net) is ∙ ap (λ (first : CompileFault). first ∷ []) large
refused_is_large net fault count (inr is) large = cc
