use Rattle.std.proofs.Common.{◌≡◌, All, Bool, true, false, ℕ, ◌<◌, length, ap, ◌∙◌, sym, arith}
use Rattle.std.specs.Int.{w64}
use Rattle.std.specs.Prelude.{ℤ, ◌+ℤ◌}
use Rattle.std.proofs.lemmas.Int.{ints, to_z-of_z}
use mir.Val.{of_z, to_z}
use Rattle.sparse_program.specs.Program.{row_of, terms_of}
use Rattle.kept_value.specs.Kept.{reduced_at}
use Rattle.kept_value.proofs.KeptLaws.{IsSlope-charged, standing-charged}
use Rattle.kept_value.proofs.kept.KeptValue.slopes.Goals as goal

pub slopes_of-columns-requires : goal.slopes_of-columns-requires
slopes_of-columns-requires c =
    let of = rw (← c.self.view_is) at c.requires.of in
    let is : c.as_slice.result.now ≡ c.self.inside.reduced.items = c.as_slice.ensures.value in
    let long : length c.as_slice.result.now ≡ length c.args.program.now.columns = ap length is ∙ of.one_per_column in
    record {
      terms = rw long c.terms_of.ensures.lawful;
      few = c.terms_of.ensures.few;
      price = omega (arith, ints, c.requires.few);
      columns = of.columns ∙ sym long;
      modest = rw is c.self.invariant.costs;
    }

pub returns : goal.returns
returns c =
    let of = rw (← c.self.view_is) at c.requires.of in
    let rows = c.args.program.now.rows in
    let row : ℕ = c.args.row in
    let costs : ℕ → ℤ = reduced_at c.self.inside.reduced.items in
    let by = to_z-of_z w64 c.args.by c.ranges.by in
    let up : to_z w64 (of_z w64 (to_z w64 (of_z w64 c.side_of-side.result) +ℤ to_z w64 (of_z w64 c.slopes_of-columns.result.up))) ≡ (row_of rows row).rhs +ℤ c.slopes_of-columns.result.up =
    omega (arith, ints, c.side_of-side.ensures.small, c.side_of-side.ensures.value, c.slopes_of-columns.ensures.small) in
    let down : to_z w64 (of_z w64 (to_z w64 (of_z w64 c.side_of-side.result) +ℤ to_z w64 (of_z w64 c.slopes_of-columns.result.down))) ≡ (row_of rows row).rhs +ℤ c.slopes_of-columns.result.down =
    omega (arith, ints, c.side_of-side.ensures.small, c.side_of-side.ensures.value, c.slopes_of-columns.ensures.small) in
    let there : All (λ (term : ℕ × ℤ). term.0 < length c.args.program.now.columns) (terms_of rows row) = rw c.terms_of.ensures.value at c.terms_of.ensures.lawful.there in
    let stands = λ (rises : Bool). standing-charged c.args.program.now c.self.inside.bounds c.self.inside.prices.items costs row c.args.by rises of.reduced c.requires.there of.lawful.one_per_row there in
    rw (← c.self.view_is)
    (record {
      rising = omega (arith, ints, up, stands true, rw (by, c.as_slice.ensures.value, c.terms_of.ensures.value) at c.slopes_of-columns.ensures.rising);
      falling = omega (arith, ints, down, stands false, rw (by, c.as_slice.ensures.value, c.terms_of.ensures.value) at c.slopes_of-columns.ensures.falling);
      up = λ other.
          rw up
          (IsSlope-charged c.args.program.now c.self.inside.bounds c.self.inside.prices.items costs row c.args.by c.slopes_of-columns.result.up of.reduced c.requires.there of.lawful.one_per_row
          (λ price. rw (by, c.as_slice.ensures.value, of.one_per_column, c.terms_of.ensures.value) at (c.slopes_of-columns.ensures.up price)) other);
      down = λ other.
          rw down
          (IsSlope-charged c.args.program.now c.self.inside.bounds c.self.inside.prices.items costs row c.args.by c.slopes_of-columns.result.down of.reduced c.requires.there of.lawful.one_per_row
          (λ price. rw (by, c.as_slice.ensures.value, of.one_per_column, c.terms_of.ensures.value) at (c.slopes_of-columns.ensures.down price)) other);
    })
