use Rattle.std.proofs.Common.{rules, arith, ◌≡◌, ℕ, ◌+◌, ◌-◌, ◌<◌, ◌≤◌, List, [], ◌∷◌, ◌++◌, get_or, drop, take, length, refl, ap, ◌∙◌, length-drop}
use Rattle.std.proofs.lemmas.List.{drop-drop, take_all}
use Rattle.std.proofs.lemmas.List.Elements.{All-drop}
use Rattle.ct_base.specs.Access.{cell_of}
use Rattle.ct_base.specs.Validity.{IsBetween}
use Rattle.program_model.specs.Columns.{columns_of_branch, columns_of_branches}
use Rattle.program_model.specs.Numbers.{branches_of}
use Rattle.sparse_program.specs.declared.limits.TheConstants.{MAX_COLUMNS}
use Rattle.program_columns.proofs.BuildingLaws.{others_fit}
use Rattle.program_columns.proofs.columns.diverge.+add_branches.Goals as goal

-- what stands behind the first branch
behind_first : (left : List (ℕ × ℕ)) → take (length left - 1) (drop 1 left) ≡ drop 1 left
behind_first left = take_all (length left - 1) (drop 1 left) (omega (arith, length-drop 1 left))

-- the columns of the first branch, and those of the others
first_and_others : (t i k : ℕ) (left : List (ℕ × ℕ)) → 1 ≤ length left →
    columns_of_branches t i k left ≡ columns_of_branch t i k (get_or left 0 (0, 0)).1 ++ columns_of_branches t i (k + 1) (drop 1 left)
first_and_others t i k [] some = absurd (omega (arith, some))
first_and_others t i k (branch ∷ later) some = refl

pub add_branches-requires : goal.add_branches-requires
add_branches-requires t c =
    rw (behind_first c.args.left.now) (
      search rules,
      (
        search rules,
        (
          ap (drop 1) c.requires.left ∙ drop-drop 1 c.args.k (branches_of (cell_of c.args.net.now.cells c.args.i).out),
          (
            omega (arith, length-drop 1 c.args.left.now, c.requires.few, c.in-len1-up.len_at_least),
            (
              All-drop (λ (branch : ℕ × ℕ). branch.0 < length c.args.net.now.cells) 1 c.args.left.now c.requires.there,
              (
                All-drop (λ (branch : ℕ × ℕ). IsBetween 1 100 branch.1) 1 c.args.left.now c.requires.units,
                others_fit c.args.net.now c.args.builder.now c.add_branch.new.builder MAX_COLUMNS
                    (columns_of_branch c.args.t c.args.i c.args.k (get_or c.args.left.now 0 (0, 0)).1)
                    (columns_of_branches c.args.t c.args.i (c.args.k + 1) (drop 1 c.args.left.now))
                    c.in_ok-add_branch-in-len1-up.ensures
                    (omega (arith, c.requires.room, ap length (first_and_others c.args.t c.args.i c.args.k c.args.left.now c.in-len1-up.len_at_least))),
              ),
            ),
          ),
        ),
      ),
    )
