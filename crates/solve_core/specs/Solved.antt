-- What a search answers for a network and a budget of nodes (docs/search.md): the first fault, or a plan with its delay, and a
-- certificate of a bound.
use Rattle.std.specs.Prelude.{◌≡◌, ◌↔◌, ℕ, ◌+◌, ◌*◌, ◌<◌, ◌≤◌, ◌^◌, nat_lt, pos, Bool, List, ◌++◌, length, map, Result, Ok, Err}
use Rattle.refusals.specs.Faults.{unless, where_so}
use Rattle.ct_base.specs.declared.net.Net.{Net}
use Rattle.ct_base.specs.declared.plan.Plan.{Plan}
use Rattle.sparse_program.specs.declared.limits.TheConstants.{MAX_ROWS}
use Rattle.traffic_model.specs.Runs.{IsAdmissiblePlan}
use Rattle.program_model.specs.Points.{rows}
use Rattle.certificate_model.specs.Certificates.{root_of}
use Rattle.certificate_model.specs.Nodes.{nodes_of}
use Rattle.certificate_model.specs.Tree.{Tree}
use Rattle.cert_format.specs.Marks.{node_of}
use Rattle.plan_rounding.specs.Named.{named_plan}
use Rattle.plan_rounding.specs.Replayed.{delay_in}
use Rattle.search_model.specs.Splits.{unfixed_count}
use Rattle.solve_core.specs.Searched.{IsSearched}
use Rattle.solve_core.specs.declared.constants.TheConstants.{MAX_WORK}
use Rattle.solve_core.specs.declared.fault.SolveFault.{SolveFault}
use Rattle.solve_core.specs.declared.fault.SolveFault.TheVariants.{Budget, Memory, TooLarge}
use Rattle.solve_core.specs.declared.solved.Solved.{Solved}
use Rattle.solve_core.specs.declared.solved.State.TheVariants.{Optimal, StillOpen}

-- the faults of a network and a budget, of which the first decides: the program has more rows than a program holds, or the budget is
-- too great for its rows
unfoldable pub solve_faults : Net → ℕ → List SolveFault
solve_faults net budget =
    where_so (nat_lt MAX_ROWS (length (rows net))) (TooLarge (length (rows net)))
    ++ where_so (nat_lt MAX_WORK (budget * length (rows net))) (Budget (length (rows net)))

-- the plan is admissible, with its delay, and no worse than `short` and `long`
pub record IsFound (net : Net) (delay : ℕ) (plan : Plan) : Type 0 where
  pub admissible : IsAdmissiblePlan net plan
  pub delay_is : delay ≡ delay_in net plan
  pub named : (long : Bool) → delay ≤ delay_in net (named_plan net long)

-- a search within a budget has come to this
pub record IsSolved (net : Net) (budget : ℕ) (solved : Solved) : Type 0 where
  pub found : IsFound net solved.delay solved.plan
  -- the tree whose nodes the certificate has
  pub tree : Tree
  pub written : map node_of solved.cert.nodes ≡ nodes_of tree
  pub searched : IsSearched net budget (pos solved.delay) solved.cert.bound tree
  pub nodes : solved.nodes ≡ length (nodes_of tree)
  -- the state is `optimal` exactly where the bound is the delay, and then no admissible plan is better
  pub optimal : (solved.state ≡ Optimal) ↔ (solved.cert.bound ≡ pos solved.delay)
  pub best : solved.state ≡ Optimal → (plan : Plan) → IsAdmissiblePlan net plan → solved.delay ≤ delay_in net plan
  -- else two more nodes would be above the budget; and a budget for all trees is enough
  pub still : solved.state ≡ StillOpen → budget < solved.nodes + 2
  pub enough : 2 ^ (unfixed_count net (root_of net) + 1) ≤ budget + 1 → solved.state ≡ Optimal

-- what is answered where the faults of a network and a budget are these: the first of them, else what a search comes to, or that memory
-- was wanting
abbrev pub Answers : Net → ℕ → Result Unit SolveFault → Result Solved SolveFault → Type 0
Answers net budget (Err fault) result = result ≡ Err fault
Answers net budget (Ok none) (Ok solved) = IsSolved net budget solved
Answers net budget (Ok none) (Err fault) = fault ≡ Memory

-- what a search for a network within a budget may answer
abbrev pub Solves : Net → ℕ → Result Solved SolveFault → Type 0
Solves net budget result = Answers net budget (unless (solve_faults net budget) tt) result
