use Rattle.std.proofs.Common.{◌∙◌, w64}
use Rattle.std.proofs.lemmas.Int.{to_z-of_z}
use Rattle.queue_prices.proofs.prices.add_cell.Goals as goal

pub returns : goal.returns
returns c = record {
  zero = λ gates costs rises.
      let held = to_z-of_z w64 c.rise_of_holding-held.result (record { sfits = c.rise_of_holding-held.type_inv }) ∙ c.rise_of_holding-held.ensures.zero costs in
      let toll = to_z-of_z w64 c.value_at.result (record { sfits = c.value_at.type_inv }) ∙ c.value_at.ensures.zero gates in
      let paid = to_z-of_z w64 c.times.result (record { sfits = c.times.type_inv }) ∙ c.times.ensures.zero held in
      c.add_holds.ensures.zero costs (c.add_at-2.ensures.zero (c.add_at.ensures.zero (c.add_split.ensures.zero held rises) toll) paid);
}
