-- What a search has come to at its end.
use Rattle.std.proofs.Common.{◌≡◌, subst, ℕ, ◌+◌, ◌<◌, ◌≤◌, ◌^◌, length, map, Some, arith, ap, sym, ◌∙◌, inl, inr}
use Rattle.std.specs.Prelude.{ℤ, pos, ◌≤ℤ◌}
use Rattle.std.proofs.lemmas.Int.{ints}
use Rattle.ct_base.specs.declared.net.Net.{Net}
use Rattle.ct_base.specs.declared.plan.Plan.{Plan}
use Rattle.traffic_model.specs.Runs.{IsAdmissiblePlan}
use Rattle.certificate_model.specs.Leaves.{plan_delay}
use Rattle.certificate_model.specs.Nodes.{nodes_of}
use Rattle.certificate_model.specs.Tree.{Tree}
use Rattle.cert_format.specs.Marks.{node_of}
use Rattle.branch_tree.specs.Boxes.{Growing}
use Rattle.branch_tree.specs.OpenTree.{OpenTree, closed_of, size}
use Rattle.plan_rounding.specs.Replayed.{delay_in}
use Rattle.solve_core.proofs.ShapeLaws.{nodes_of_shape}
use Rattle.solve_core.proofs.WholeLaws.{shape_is}
use Rattle.solve_core.specs.Growth.{IsTreeOf}
use Rattle.solve_core.specs.Searched.{IsReached, IsSearched, IsSpent}
use Rattle.solve_core.specs.Solved.{IsFound, IsSolved}
use Rattle.solve_core.specs.declared.solved.Solved.{Solved}
use Rattle.solve_core.specs.declared.solved.State.{State}
use Rattle.solve_core.specs.declared.solved.State.TheVariants.{Optimal, StillOpen}

-- where the bound is below the delay, the budget is spent
spent_where_open : (net : Net) (budget nodes : ℕ) (delay bound : ℤ) → IsReached net budget delay bound nodes → bound ≤ℤ delay → (bound ≡ delay → ⊥) → IsSpent net budget nodes
spent_where_open net budget nodes delay bound (inl above) below apart = absurd (apart (omega (arith, ints, above, below)))
spent_where_open net budget nodes delay bound (inr spent) below apart = spent

-- whether a search has come to its end is told by one of two words
apart : Optimal ≡ StillOpen → ⊥
apart same = cc

-- where the bound is the delay, a budget that is enough is no question, and no plan is better
solved_where_reached : (net : Net) (budget : ℕ) (solved : Solved) (tree : Tree) → IsFound net solved.delay solved.plan →
    map node_of solved.cert.nodes ≡ nodes_of tree → IsSearched net budget (pos solved.delay) solved.cert.bound tree →
    solved.nodes ≡ length (nodes_of tree) → solved.state ≡ Optimal → solved.cert.bound ≡ pos solved.delay →
    ((plan : Plan) → IsAdmissiblePlan net plan → solved.delay ≤ delay_in net plan) → IsSolved net budget solved
solved_where_reached net budget solved tree found written searched nodes state bound best = record {
  found = found;
  tree = tree;
  written = written;
  searched = searched;
  nodes = nodes;
  optimal = ((λ is. bound), (λ is. state));
  best = λ is. best;
  still = λ is. absurd (apart (sym state ∙ is));
  enough = λ many. state;
}

-- where it is below the delay, the budget was not enough
solved_where_open : (net : Net) (budget : ℕ) (solved : Solved) (tree : Tree) → IsFound net solved.delay solved.plan →
    map node_of solved.cert.nodes ≡ nodes_of tree → IsSearched net budget (pos solved.delay) solved.cert.bound tree →
    solved.nodes ≡ length (nodes_of tree) → solved.state ≡ StillOpen → (solved.cert.bound ≡ pos solved.delay → ⊥) → IsSolved net budget solved
solved_where_open net budget solved tree found written searched nodes state bound =
    let spent = spent_where_open net budget (length (nodes_of tree)) (pos solved.delay) solved.cert.bound searched.reached searched.to_delay bound in
    let full : budget < solved.nodes + 2 = subst (λ (n : ℕ). budget < n + 2) (sym nodes) spent.full in
    record {
      found = found;
      tree = tree;
      written = written;
      searched = searched;
      nodes = nodes;
      optimal = ((λ is. absurd (apart (sym is ∙ state))), (λ is. absurd (bound is)));
      best = λ is. absurd (apart (sym is ∙ state));
      still = λ is. full;
      enough = λ many. absurd (omega (arith, many, spent.full, spent.room));
    }

-- a number that is at most a small delay is one of 62 bits
pub held_least : (least : ℤ) (delay other : ℕ) → delay ≡ other → least ≤ℤ pos other → delay < 2 ^ 49 → least ≤ℤ pos (2 ^ 62)
held_least least delay other same below small = omega (arith, ints, same, below, small)

-- what a tree shows for a plan, it shows for the plan's delay and for the bound that is written
pub searched_as : (net : Net) (budget delay : ℕ) (plan : Plan) (least bound : ℤ) (tree : Tree) → delay ≡ delay_in net plan → bound ≡ least →
    IsSearched net budget (plan_delay net plan) least tree → IsSearched net budget (pos delay) bound tree
searched_as net budget delay plan least bound tree same is searched =
    subst (λ (n : ℕ). IsSearched net budget (pos n) bound tree) (sym same) (subst (λ (z : ℤ). IsSearched net budget (plan_delay net plan) z tree) (sym is) searched)

-- and what a search keeps for the delay of its plan, it keeps for the plan
pub kept_for : (net : Net) (budget delay : ℕ) (plan : Plan) (least : ℤ) (growing : Growing) → delay ≡ delay_in net plan →
    IsTreeOf net budget (pos delay) least growing → IsTreeOf net budget (plan_delay net plan) least growing
kept_for net budget delay plan least growing same grown = subst (λ (n : ℕ). IsTreeOf net budget (pos n) least growing) same grown

pub reached_for : (net : Net) (budget delay nodes : ℕ) (plan : Plan) (least : ℤ) → delay ≡ delay_in net plan →
    IsReached net budget (pos delay) least nodes → IsReached net budget (plan_delay net plan) least nodes
reached_for net budget delay nodes plan least same reached = subst (λ (n : ℕ). IsReached net budget (pos n) least nodes) same reached

-- no admissible plan has a delay below one that is a certified bound
pub best_of : (net : Net) (bound : ℤ) (delay : ℕ) (plan other : Plan) → delay ≡ delay_in net plan → bound ≡ pos delay →
    (plan_delay net plan ≡ bound → plan_delay net plan ≤ℤ plan_delay net other) → delay ≤ delay_in net other
best_of net bound delay plan other same is law =
    let from : plan_delay net plan ≤ℤ plan_delay net other = law (ap pos (sym same) ∙ sym is) in
    omega (arith, ints, same, from)

-- a search that has ended, in a state which says whether its bound is the delay
pub solved_of : (net : Net) (budget : ℕ) (solved : Solved) (tree : Tree) (state : State) → solved.state ≡ state → IsFound net solved.delay solved.plan →
    map node_of solved.cert.nodes ≡ nodes_of tree → IsSearched net budget (pos solved.delay) solved.cert.bound tree →
    solved.nodes ≡ length (nodes_of tree) → (solved.state ≡ Optimal → solved.cert.bound ≡ pos solved.delay) →
    (solved.state ≡ StillOpen → solved.cert.bound ≡ pos solved.delay → ⊥) →
    (solved.cert.bound ≡ pos solved.delay → (plan : Plan) → IsAdmissiblePlan net plan → solved.delay ≤ delay_in net plan) → IsSolved net budget solved
solved_of net budget solved tree Optimal is found written searched nodes optimal opened best =
    solved_where_reached net budget solved tree found written searched nodes is (optimal is) (best (optimal is))
solved_of net budget solved tree StillOpen is found written searched nodes optimal opened best =
    solved_where_open net budget solved tree found written searched nodes is (opened is)

-- a whole tree has as many nodes as before its numbers were taken off
pub whole_size : (tree : OpenTree) (closed : Tree) → closed_of tree ≡ Some closed → size tree ≡ length (nodes_of closed)
whole_size tree closed is = sym (rw (shape_is tree closed is) at (nodes_of_shape tree))
