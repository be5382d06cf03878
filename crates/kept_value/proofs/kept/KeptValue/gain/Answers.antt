use Rattle.std.proofs.Common.{◌≡◌, ℕ, length, ap, ◌∙◌, sym, arith}
use Rattle.std.specs.Int.{w64}
use Rattle.std.specs.Prelude.{ℤ, ◌-ℤ◌, ◌*ℤ◌}
use Rattle.std.proofs.lemmas.Int.{ints, to_z-of_z}
use mir.Val.{of_z, to_z}
use Rattle.sparse_program.specs.Program.{row_of, terms_of}
use Rattle.kept_value.specs.Kept.{reduced_at}
use Rattle.kept_value.specs.inner.Charged.{charged, least_of}
use Rattle.kept_value.proofs.KeptLaws.{gain_of-charged}
use Rattle.kept_value.proofs.kept.KeptValue.gain.Goals as goal

pub gain-columns-requires : goal.gain-columns-requires
gain-columns-requires c =
    let of = rw (← c.self.view_is) at c.requires.of in
    let is : c.as_slice.result.now ≡ c.self.inside.reduced.items = c.as_slice.ensures.value in
    let long : length c.as_slice.result.now ≡ length c.args.program.now.columns = ap length is ∙ of.one_per_column in
    record {
      terms = rw long c.terms_of.ensures.lawful;
      few = c.terms_of.ensures.few;
      price = omega (arith, ints, c.requires.few);
      columns = of.columns ∙ sym long;
      modest = rw is c.self.invariant.costs;
    }

pub returns : goal.returns
returns c =
    let of = rw (← c.self.view_is) at c.requires.of in
    let rows = c.args.program.now.rows in
    let row : ℕ = c.args.row in
    let columns : ℕ = length c.args.program.now.columns in
    let costs : ℕ → ℤ = reduced_at c.self.inside.reduced.items in
    let by = to_z-of_z w64 c.args.by c.ranges.by in
    let side : to_z w64 (of_z w64 c.side_of.result) ≡ (row_of rows row).rhs = omega (arith, ints, c.side_of.ensures.small, c.side_of.ensures.value) in
    let gained = gain_of-charged c.args.program.now c.self.inside.bounds c.self.inside.prices.items costs row c.args.by of.reduced c.requires.there of.lawful.one_per_row in
    let paid : c.payment.result ≡ c.args.by *ℤ (row_of rows row).rhs = rw (by, side) at c.payment.ensures.value in
    let columns_is : c.gain-columns.result ≡ least_of columns c.self.inside.bounds (charged costs c.args.by (terms_of rows row)) -ℤ least_of columns c.self.inside.bounds costs =
    rw (by, c.as_slice.ensures.value, of.one_per_column, c.terms_of.ensures.value) at c.gain-columns.ensures.value in
    rw (← c.self.view_is) (omega (arith, ints, gained, paid, columns_is, c.payment.ensures.small, c.gain-columns.ensures.small))
