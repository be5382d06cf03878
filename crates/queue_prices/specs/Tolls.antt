-- Tolls: what is asked for each unit of flow that passes a gate, and for each rule row (docs/search.md, "Prices by costs to go").
use Rattle.queue_prices.specs.declared.tolls.Tolls.{Tolls}
use Rattle.queue_prices.specs.Zero.{AreZero}

-- no gate and no rule row asks for anything
abbrev pub IsFree : Tolls → Type 0
IsFree tolls = AreZero tolls.gates.items × AreZero tolls.rules.items
