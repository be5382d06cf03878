-- The plan columns of the box in which a search stands.
use Rattle.std.proofs.Common.{arith, subst, sym}
use Rattle.std.specs.Prelude.{◌≡◌, ◌≤◌, length}
use Rattle.ct_base.specs.declared.net.Net.{Net}
use Rattle.sparse_program.specs.Box.{Ranges}
use Rattle.sparse_program.specs.Program.{Parts}
use Rattle.program_model.specs.Numbers.{plan_count}
use Rattle.program_model.specs.Points.{program_of}
use Rattle.search_model.specs.Splits.{HasBits}
use Rattle.branch_tree.specs.Boxes.{box_of}
use Rattle.solve_core.specs.declared.search.Search.{Search}
use Rattle.solve_core.specs.inner.Searching.{Stands}

-- the box has the plan columns
pub columns_stand : (net : Net) (search : Search) → Stands net search → HasBits net (box_of search.tree search.at) →
    plan_count net ≤ length search.costed.box.lows
columns_stand net search stands bits =
    subst (λ (box : Ranges). plan_count net ≤ length box.lows) (sym stands.costed_box) bits.there

-- and so has the program
pub columns_exist : (net : Net) (program : Parts) (search : Search) → program ≡ program_of net → Stands net search →
    HasBits net (box_of search.tree search.at) → plan_count net ≤ length program.columns
columns_exist net program search is stands bits =
    let all : plan_count net ≤ length (program_of net).columns = omega (arith, columns_stand net search stands bits, stands.costed_of.columns) in
    subst (λ (parts : Parts). plan_count net ≤ length parts.columns) (sym is) all
