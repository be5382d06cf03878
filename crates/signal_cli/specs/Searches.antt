-- What a run of `solve` promises of the two files that it wrote and of the lines that it printed (README.md, "What is proved"). Whoever
-- wants to believe its bound reads `Bounds` alone: this says of the certificate what a checker and a search say of it.
use Rattle.std.specs.Prelude.{◌≡◌, ◌↔◌, ℕ, ◌+◌, ◌<◌, ◌≤◌, ◌^◌, ℤ, pos, ◌≤ℤ◌, Bool, List, length, Option, Some, None, Ok}
use Rattle.shelf_io.specs.Told.{Files, bytes_of, with_taken}
use Rattle.ct_base.specs.declared.net.Net.{Net}
use Rattle.ct_base.specs.declared.plan.Plan.{Plan}
use Rattle.sparse_program.specs.Box.{Ranges}
use Rattle.traffic_model.specs.Runs.{IsAdmissiblePlan}
use Rattle.named_net.specs.Naming.{Named}
use Rattle.plan_file.specs.Spelled.{spelled_plan}
use Rattle.certificate_model.specs.Certificates.{root_of}
use Rattle.certificate_model.specs.Nodes.{nodes_of}
use Rattle.certificate_model.specs.Tree.{IsLeafOf, Leaf}
use Rattle.certificate_model.specs.Verdicts.{Accepts}
use Rattle.certificate_model.specs.declared.constants.TheConstants.{MAX_CERTIFICATE_BYTES}
use Rattle.plan_rounding.specs.Named.{named_plan}
use Rattle.plan_report.specs.Summary.{summary_lines}
use Rattle.search_model.specs.LeafNumbers.{IsLeastGiven}
use Rattle.search_model.specs.Splits.{AreFirstSplits, unfixed_count}
use Rattle.solve_core.specs.Earned.{IsEarned}
use Rattle.solve_core.specs.declared.solved.State.{State}
use Rattle.solve_core.specs.declared.solved.State.TheVariants.{Optimal, StillOpen}
use Rattle.signal_cli.specs.Bounds.{IsSafe, delay_under}
use Rattle.signal_cli.specs.Worlds.{ForFiles, World}

-- a text spells an admissible plan, which has the delay; and neither `short` nor `long` has a lesser one
pub record IsPlanText (named : Named) (delay : ℕ) (text : List ℕ) : Type 0 where
  pub read : Plan
  pub spelled : spelled_plan named text ≡ Ok read
  pub admissible : IsAdmissiblePlan named.net read
  pub is : delay ≡ delay_under named.net read
  pub no_worse : (long : Bool) → delay ≤ delay_under named.net (named_plan named.net long)

-- a text is that of a certificate which shows the bound, as `check` judges it, and is no longer than a certificate may be
pub record IsCertificateText (net : Net) (budget delay : ℕ) (bound : ℤ) (nodes : ℕ) (text : List ℕ) : Type 0 where
  pub accepted : Accepts net text bound
  pub fits : length text ≤ MAX_CERTIFICATE_BYTES
  -- the bound is the least number that a leaf of its tree gives
  pub least : IsLeastGiven net accepted.tree bound
  -- the tree has so many nodes, no more than the budget
  pub counted : nodes ≡ length (nodes_of accepted.tree)
  pub within : nodes ≤ budget
  -- each split is at 0 on the first plan column that its box leaves open
  pub splits : AreFirstSplits net (root_of net) accepted.tree
  -- each priced leaf was worked on, and the plan of no fixed leaf is better
  pub earned : (inner : Ranges) (leaf : Leaf) → IsLeafOf (root_of net) accepted.tree inner leaf → IsEarned net (pos delay) inner leaf

-- what the state says of a delay and a bound
pub record IsStateOf (net : Net) (budget delay : ℕ) (bound : ℤ) (nodes : ℕ) (state : State) : Type 0 where
  pub from_zero : pos 0 ≤ℤ bound
  pub to_delay : bound ≤ℤ pos delay
  -- `optimal` comes exactly where the bound is the delay, and then no admissible plan has a lesser delay
  pub optimal : (state ≡ Optimal) ↔ (bound ≡ pos delay)
  pub best : state ≡ Optimal → (plan : Plan) → IsAdmissiblePlan net plan → delay ≤ delay_under net plan
  -- `open` comes only where two more nodes would be above the budget
  pub spent : state ≡ StillOpen → budget < nodes + 2
  -- a budget for all trees is enough
  pub enough : 2 ^ (unfixed_count net (root_of net) + 1) ≤ budget + 1 → state ≡ Optimal

-- Below, the files are those before the run, and the two texts those that were written.
module _ (network : List ℕ) (budget delay : ℕ) (bound : ℤ) (nodes : ℕ) (state : State) (plan certificate : List ℕ) where
  -- the network file spells a network; the bound is safe for it, and the plan, the certificate and the state are as above
  pub record IsPlanned (files : Files) : Type 0 where
    pub safe : IsSafe network bound files
    pub plan_text : IsPlanText safe.named delay plan
    pub certificate_text : IsCertificateText safe.named.net budget delay bound nodes certificate
    pub state_of : IsStateOf safe.named.net budget delay bound nodes state

-- where files are told, the named one holds the text
abbrev pub Holds : Option Files → List ℕ → List ℕ → Type 0
Holds None name text = Unit {0}
Holds (Some files) name text = bytes_of files name ≡ Some text

-- exactly the lines of a search were put, and both files hold what it found: for the told files, or where files are not told, for some
pub record PutsPlan (network : List ℕ) (budget : ℕ) (plan certificate : List ℕ) (before after : World) : Type 0 where
  pub delay : ℕ
  pub bound : ℤ
  pub nodes : ℕ
  pub state : State
  pub put : after.out ≡ with_taken before.out (summary_lines delay bound nodes state)
  pub plan_text : List ℕ
  pub plan_holds : Holds after.shelf.files plan plan_text
  pub certificate_text : List ℕ
  pub certificate_holds : Holds after.shelf.files certificate certificate_text
  pub planned : ForFiles before.shelf.files (IsPlanned network budget delay bound nodes state plan_text certificate_text)
