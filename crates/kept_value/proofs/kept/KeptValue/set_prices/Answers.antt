use Rattle.std.proofs.Common.{◌≡◌, ◌∙◌, ap, arith}
use Rattle.std.specs.Int.{w128}
use Rattle.std.proofs.lemmas.Int.{ints}
use Rattle.std.proofs.lemmas.List.{with_items_is}
use mir.Val.{of_z, to_z}
use Rattle.kept_value.specs.Kept.{IsKeptOf, Kept}
use Rattle.kept_value.proofs.KeptLaws.{kept-modest, kept-small}
use Rattle.kept_value.proofs.kept.KeptValue.set_prices.Goals as goal

-- what is kept now
now : (c : goal.After-self-3-1) → Kept
now c = record {
  box = c.self.inside.bounds;
  prices = c.args.prices.now;
  reduced = c.write_reduced_costs.new.reduced;
  value = c.value-self-inside.result;
}

-- is kept of the program
now_is : (c : goal.After-self-3-1) → IsKeptOf c.args.program.now (now c)
unfolding now
now_is c =
    let of = rw (← c.self.view_is) at c.requires.of in
    record {
      columns = of.columns;
      lawful = c.requires.lawful;
      one_per_column = c.write_reduced_costs.ensures.long;
      reduced = c.write_reduced_costs.ensures.each;
      value = c.value-self-inside.ensures.value;
    }

-- the value that is written
value_is : (c : goal.After-self-3-1) → to_z w128 (of_z w128 c.value-self-inside.result) ≡ c.value-self-inside.result
value_is c = omega (arith, ints, c.value-self-inside.ensures.small)

pub invariant_of-self : goal.invariant_of-self
unfolding now
invariant_of-self c =
    let items = with_items_is c.self.inside.reduced c.write_reduced_costs.new.reduced (c.write_reduced_costs.auto.reduced ∙ c.as_mut_slice.ensures.len) in
    rw (items, value_is c)
    (record { costs = kept-modest c.args.program.now (now c) c.is_program.ensures (now_is c); small = kept-small c.args.program.now (now c) c.is_program.ensures c.is_box.ensures (now_is c) })

pub returns : goal.returns
unfolding now
returns c =
    let items = with_items_is c.self.inside.reduced c.write_reduced_costs.new.reduced (c.write_reduced_costs.auto.reduced ∙ c.as_mut_slice.ensures.len) in
    let prices = with_items_is c.self.inside.prices c.copy_from_slice.new.self (c.copy_from_slice.ensures.len ∙ c.as_mut_slice-2.ensures.len) ∙ c.copy_from_slice.ensures.after in
    record {
      prices = prices;
      ranges = ap (λ (kept : Kept). kept.box) c.self.view_is;
      of = rw (items, prices, value_is c) (now_is c);
    }
