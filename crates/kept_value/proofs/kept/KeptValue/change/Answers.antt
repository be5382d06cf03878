use Rattle.std.proofs.Common.{◌≡◌, ℕ, ◌*◌, ◌≤◌, length, ap, ◌∙◌, sym, arith}
use Rattle.std.specs.Int.{w64, w128}
use Rattle.std.specs.Prelude.{ℤ, ◌+ℤ◌, unsigned_abs, slice_set}
use Rattle.std.proofs.lemmas.Int.{fits_signed_from_abs, ints, to_z-of_z}
use Rattle.std.proofs.lemmas.List.{with_items_is}
use mir.Val.{of_z, to_z}
use Rattle.sparse_program.specs.Program.{row_of}
use Rattle.certificate_model.specs.Value.{most_price}
use Rattle.kept_value.specs.Kept.{IsKeptOf, Kept, repriced}
use Rattle.kept_value.proofs.KeptLaws.{IsKeptOf-repriced, change-small, kept-modest, kept-small, price-fits, price-shown}
use Rattle.kept_value.proofs.kept.KeptValue.change.Goals as goal

pub charge-columns-requires : goal.charge-columns-requires
charge-columns-requires c =
    let of = rw (← c.self.view_is) at c.requires.of in
    let again = rw (← c.self.view_is) at c.requires.lawful in
    let few : unsigned_abs c.args.by ≤ 2 * most_price = change-small c.args.program.now.rows c.self.inside.prices.items c.args.row c.args.by of.lawful again c.requires.there in
    let is : c.as_mut_slice.result.now ≡ c.self.inside.reduced.items = c.as_mut_slice.ensures.value in
    let long : length c.as_mut_slice.result.now ≡ length c.args.program.now.columns = ap length is ∙ of.one_per_column in
    record {
      terms = rw long c.terms_of.ensures.lawful;
      few = c.terms_of.ensures.few;
      price = omega (arith, ints, few);
      columns = of.columns ∙ sym long;
      modest = rw is c.self.invariant.costs;
    }

pub payment-side-requires-clause-price : goal.payment-side-requires-clause-price
payment-side-requires-clause-price c =
    let of = rw (← c.self.view_is) at c.requires.of in
    let again = rw (← c.self.view_is) at c.requires.lawful in
    omega (arith, ints, change-small c.args.program.now.rows c.self.inside.prices.items c.args.row c.args.by of.lawful again c.requires.there)

pub overflow_add-self-2 : goal.overflow_add-self-2
overflow_add-self-2 c = fits_signed_from_abs w128 _ (omega (arith, ints, c.self.invariant.small, c.payment-side.ensures.small, c.charge-columns.ensures.small))

pub overflow_add-index_mut : goal.overflow_add-index_mut
overflow_add-index_mut c =
    let of = rw (← c.self.view_is) at c.requires.of in
    let again = rw (← c.self.view_is) at c.requires.lawful in
    price-fits c.args.program.now.rows c.self.inside.prices.items c.args.row c.args.by c.index_mut.result.now of.lawful again c.requires.there c.index_mut.ensures.value

-- what is kept now
now : (c : goal.After-self-4-1) → Kept
now c = record {
  box = c.self.inside.bounds;
  prices = repriced c.self.inside.prices.items c.args.row c.args.by;
  reduced = c.charge-columns.new.reduced;
  value = c.self.inside.value +ℤ (c.payment-side.result +ℤ c.charge-columns.result);
}

-- is kept of the program
now_is : (c : goal.After-self-4-1) → IsKeptOf c.args.program.now (now c)
unfolding now
now_is c =
    let of = rw (← c.self.view_is) at c.requires.of in
    let again = rw (← c.self.view_is) at c.requires.lawful in
    let rows = c.args.program.now.rows in
    let row : ℕ = c.args.row in
    let by = to_z-of_z w64 c.args.by c.ranges.by in
    let side : to_z w64 (of_z w64 c.side_of.result) ≡ (row_of rows row).rhs = omega (arith, ints, c.side_of.ensures.small, c.side_of.ensures.value) in
    let long : length c.as_mut_slice.result.now ≡ length c.self.inside.reduced.items = ap length c.as_mut_slice.ensures.value in
    let paid = rw (by, side) at c.payment-side.ensures.value in
    let columns = rw (by, c.as_mut_slice.ensures.value, of.one_per_column, c.terms_of.ensures.value) at c.charge-columns.ensures.value in
    IsKeptOf-repriced c.args.program.now (record { box = c.self.inside.bounds; prices = c.self.inside.prices.items; reduced = c.self.inside.reduced.items; value = c.self.inside.value }) row c.args.by
    (c.payment-side.result +ℤ c.charge-columns.result) c.charge-columns.new.reduced of c.requires.there again (c.charge-columns.auto.reduced ∙ long)
    (λ j below. rw (by, c.as_mut_slice.ensures.value, c.terms_of.ensures.value) at (c.charge-columns.ensures.reduced j (omega (arith, below, long))))
    (omega (arith, ints, paid, columns))

-- the value that is written
value_is : (c : goal.After-self-4-1) →
    to_z w128 (of_z w128 (to_z w128 (of_z w128 c.self.inside.value) +ℤ to_z w128 (of_z w128 (to_z w128 (of_z w128 c.payment-side.result) +ℤ to_z w128 (of_z w128 c.charge-columns.result)))))
    ≡ c.self.inside.value +ℤ (c.payment-side.result +ℤ c.charge-columns.result)
value_is c = omega (arith, ints, c.self.invariant.small, c.payment-side.ensures.small, c.charge-columns.ensures.small)

pub invariant_of-self : goal.invariant_of-self
unfolding now
invariant_of-self c =
    let items = with_items_is c.self.inside.reduced c.charge-columns.new.reduced (c.charge-columns.auto.reduced ∙ c.as_mut_slice.ensures.len) in
    rw (items, value_is c)
    (record { costs = kept-modest c.args.program.now (now c) c.is_program.ensures (now_is c); small = kept-small c.args.program.now (now c) c.is_program.ensures c.is_box.ensures (now_is c) })

pub returns : goal.returns
unfolding now
returns c =
    let of = rw (← c.self.view_is) at c.requires.of in
    let again = rw (← c.self.view_is) at c.requires.lawful in
    let items = with_items_is c.self.inside.reduced c.charge-columns.new.reduced (c.charge-columns.auto.reduced ∙ c.as_mut_slice.ensures.len) in
    let price = price-shown c.args.program.now.rows c.self.inside.prices.items c.args.row c.args.by c.index_mut.result.now of.lawful again c.requires.there c.index_mut.ensures.value in
    record {
      prices = rw (← c.self.view_is) (ap (λ (z : ℤ). slice_set c.self.inside.prices.items c.args.row z) price);
      ranges = ap (λ (kept : Kept). kept.box) c.self.view_is;
      of = rw (items, price, value_is c) (now_is c);
    }
