use Rattle.std.proofs.Common.{◌≡◌, ℕ, ◌<◌, length, ◌∙◌, arith}
use Rattle.std.specs.Int.{w64}
use Rattle.std.specs.Prelude.{pos, ◌+ℤ◌}
use Rattle.std.proofs.lemmas.Int.{ints}
use Rattle.std.proofs.lemmas.List.{get_or_default}
use mir.Val.{of_z, to_z}
use Rattle.safe_bound.specs.Prices.{price_at}
use Rattle.kept_value.proofs.KeptLaws.{price-small}
use Rattle.kept_value.proofs.RepricedLaws.{ArePrices-repriced, IsAllowed-repriced}
use Rattle.kept_value.proofs.kept.KeptValue.can_change.Goals as goal

pub returns : goal.returns
returns c =
    let of = rw (← c.self.view_is) at c.requires.of in
    let rows = c.args.program.now.rows in
    let row : ℕ = c.args.row in
    let prices = c.self.inside.prices.items in
    let there : row < length prices = omega (arith, c.requires.there, of.lawful.one_per_row) in
    let old : c.index.result.now ≡ price_at prices row = c.index.ensures ∙ get_or_default prices row c.index.result.now (pos 0) there in
    let shown : to_z w64 (of_z w64 (to_z w64 (of_z w64 c.index.result.now) +ℤ to_z w64 (of_z w64 c.args.by))) ≡ price_at prices row +ℤ c.args.by =
    omega (arith, ints, old, price-small rows prices row of.lawful c.requires.there, c.requires.few) in
    let allowed = rw (shown, c.row.ensures.value) at c.is_allowed.ensures in
    rw (← c.self.view_is) (
      λ yes. ArePrices-repriced rows prices row c.args.by of.lawful c.requires.there (allowed.0 yes),
      λ lawful. allowed.1 (IsAllowed-repriced rows prices row c.args.by of.lawful.one_per_row c.requires.there lawful),
    )
