-- What a search keeps at its first turn.
use Rattle.std.proofs.Common.{arith, ap, inl, refl, subst, sym, ◌∙◌}
use Rattle.std.proofs.lemmas.Int.{ints}
use Rattle.std.specs.Prelude.{◌≡◌, ℕ, ◌<◌, ◌≤◌, ◌^◌, ℤ, pos, ◌≤ℤ◌, Bool, true, false, IsTrue}
use Rattle.ct_base.specs.declared.net.Net.{Net}
use Rattle.sparse_program.specs.Box.{Ranges, ranges_of}
use Rattle.sparse_program.specs.Program.{Parts}
use Rattle.program_model.specs.Points.{program_of}
use Rattle.certificate_model.specs.Certificates.{root_of}
use Rattle.safe_bound.specs.Costed.{IsCostedOf}
use Rattle.kept_value.specs.Kept.{IsKeptOf}
use Rattle.branch_tree.specs.Boxes.{Growing, box_of}
use Rattle.branch_tree.specs.OpenTree.{Open, has, size}
use Rattle.plan_rounding.specs.Named.{named_plan}
use Rattle.plan_rounding.specs.Replayed.{IsReplayed, delay_in}
use Rattle.plan_rounding.specs.declared.replays.ReplayedPlan.{ReplayedPlan}
use Rattle.solve_core.specs.Growth.{IsTreeOf, no_number}
use Rattle.solve_core.specs.Searched.{IsReached}
use Rattle.solve_core.specs.Solved.{IsFound}
use Rattle.solve_core.specs.inner.Searching.{IsSearching, IsTask, Stands}
use Rattle.solve_core.specs.declared.search.Search.{Search}

-- a delay is no more than that of both named plans
named_of : (net : Net) (delay : ℕ) → delay ≤ delay_in net (named_plan net false) → delay ≤ delay_in net (named_plan net true) →
    (long : Bool) → delay ≤ delay_in net (named_plan net long)
named_of net delay short long true = long
named_of net delay short long false = short

-- a replayed plan that is no worse than both named ones
found_of : (net : Net) (best : ReplayedPlan) → IsReplayed net best → best.delay ≤ delay_in net (named_plan net false) →
    best.delay ≤ delay_in net (named_plan net true) → IsFound net best.delay best.plan
found_of net best of short long = record { admissible = of.admissible; delay_is = of.delay; named = named_of net best.delay short long }

-- no delay is above what stands for the least number at first
below_no_number : (delay : ℕ) → delay < 2 ^ 49 → pos delay ≤ℤ no_number
below_no_number delay small = omega (arith, ints, small)

-- a tree of one open leaf
abbrev begun : Ranges → Growing
begun root = record { root = root; tree = Open 0 }

-- a search that has one open leaf, at which its boxes stand, and no number yet
pub started : (net : Net) (program : Parts) (budget : ℕ) (state : Search) → IsTask net program budget →
    state.tree ≡ begun (ranges_of program.columns) → IsTreeOf net budget (pos state.best.delay) no_number state.tree →
    state.at ≡ 0 → state.kept.box ≡ ranges_of program.columns → IsKeptOf program state.kept →
    state.costed.box ≡ ranges_of program.columns → IsCostedOf program state.costed →
    IsReplayed net state.best → state.best.delay < 2 ^ 49 →
    state.best.delay ≤ delay_in net (named_plan net false) → state.best.delay ≤ delay_in net (named_plan net true) →
    state.least ≡ no_number → IsSearching net budget state
started net program budget state task begins grown at kept_box kept_of costed_box costed_of of small short long least =
    let box : box_of state.tree state.at ≡ ranges_of program.columns = ap (λ (g : Growing). box_of g state.at) begins in
    let stands : Stands net state = record {
      there = subst (λ (g : Growing). IsTrue (has g.tree state.at)) (sym begins) (subst (λ (n : ℕ). IsTrue (has (Open 0) n)) (sym at) refl);
      kept_of = subst (λ (p : Parts). IsKeptOf p state.kept) task.program_is kept_of;
      kept_box = kept_box ∙ sym box;
      costed_of = subst (λ (p : Parts). IsCostedOf p state.costed) task.program_is costed_of;
      costed_box = costed_box ∙ sym box;
    } in
    record {
      grown = subst (λ (z : ℤ). IsTreeOf net budget (pos state.best.delay) z state.tree) (sym least) grown;
      reached = subst (λ (z : ℤ). IsReached net budget (pos state.best.delay) z (size state.tree.tree)) (sym least) (inl (below_no_number state.best.delay small));
      stands = stands;
      found = found_of net state.best of short long;
    }

-- the tree of one open leaf in the box of a program
pub begun_is : (net : Net) (program : Parts) (root : Ranges) (tree : Growing) → program ≡ program_of net → root ≡ ranges_of program.columns →
    tree ≡ begun root → tree ≡ begun (root_of net)
begun_is net program root tree is_program is_root is =
    is ∙ (λ i. begun ((is_root ∙ (λ k. ranges_of (is_program k).columns)) i))

-- the same where the box of the root is named otherwise
pub begun_as : (root box : Ranges) (tree : Growing) → root ≡ box → tree ≡ begun root → tree ≡ begun box
begun_as root box tree same is = is ∙ ap begun same

-- a delay that is a small one is small
pub still_small : (delay other : ℕ) → delay ≡ other → other < 2 ^ 49 → delay < 2 ^ 49
still_small delay other same small = omega (arith, same, small)
