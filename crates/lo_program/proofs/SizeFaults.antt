-- A program is too large where it has more rows than a program holds, and only there.
use Rattle.std.proofs.Common.{◌≡◌, ◌<◌, ◌≤◌, [], ◌∷◌, length, Result, Ok, Err, refl, ◌∙◌, arith}
use Rattle.std.specs.Prelude.{nat_lt}
use Rattle.std.proofs.lemmas.Bool.{le-ltb, lt-ltb, ltb-false}
use Rattle.refusals.specs.Faults.{unless}
use Rattle.refusals.proofs.FirstFaults.{unless_fine, where_none}
use Rattle.ct_base.specs.declared.net.Net.{Net}
use Rattle.sparse_program.specs.declared.limits.TheConstants.{MAX_ROWS}
use Rattle.program_model.specs.Points.{rows}
use Rattle.lo_program.specs.Compiled.{size_faults}
use Rattle.lo_program.specs.declared.fault.CompileFault.{CompileFault}
use Rattle.lo_program.specs.declared.fault.CompileFault.TheVariants.{TooLarge}

pub no_size_fault : (net : Net) → length (rows net) ≤ MAX_ROWS → size_faults net ≡ []
unfolding size_faults
no_size_fault net few = rw (le-ltb MAX_ROWS (length (rows net)) few) refl

pub size_fault : (net : Net) → MAX_ROWS < length (rows net) → size_faults net ≡ TooLarge (length (rows net)) ∷ []
unfolding size_faults
size_fault net many = rw (lt-ltb MAX_ROWS (length (rows net)) many) refl

rows_fit : (net : Net) → size_faults net ≡ [] → length (rows net) ≤ MAX_ROWS
unfolding size_faults
rows_fit net none = ltb-false MAX_ROWS (length (rows net)) (where_none (nat_lt MAX_ROWS (length (rows net))) (TooLarge (length (rows net))) none)

-- an answer that hands on the refusal
pub large_refused : {X Y : Type 0} (net : Net) (made : X) (fault : CompileFault) (answer : Result Y CompileFault) →
    answer ≡ Err fault → Err fault ≡ unless (size_faults net) made → MAX_ROWS < length (rows net) → answer ≡ Err (TooLarge (length (rows net)))
large_refused net made fault answer is refused many =
    let first : unless (size_faults net) made ≡ Err (TooLarge (length (rows net))) = rw (size_fault net many) refl in
    let same : Err fault ≡ Err (TooLarge (length (rows net))) = refused ∙ first in
    is ∙ cc

-- where there was none, the program is not too large
pub passed_fits : {X : Type 0} (net : Net) (made other : X) → Ok other ≡ unless (size_faults net) made → length (rows net) ≤ MAX_ROWS
passed_fits net made other passed = rows_fit net (unless_fine (size_faults net) made other passed)

pub passed_not_large : {X : Type 0} (net : Net) (made other : X) → Ok other ≡ unless (size_faults net) made → MAX_ROWS < length (rows net) → ⊥
passed_not_large net made other passed many = let few : length (rows net) ≤ MAX_ROWS = passed_fits net made other passed in omega (arith, few, many)
