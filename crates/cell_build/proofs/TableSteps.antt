-- Tables and joins that are filled one element at a time.
use Rattle.std.proofs.Common.{◌≡◌, ℕ, ◌+◌, ◌∷◌, ◌++◌, List, [], refl, append_assoc}
use Rattle.std.proofs.lemmas.List.{append-nil, get_or_read}
use Rattle.listed.proofs.JoinLaws.{join_below-suc, join_below-zero}
use Rattle.listed.proofs.TableLaws.{table_of-zero, table_of-suc}

-- no element, and one more
pub ruleset table_steps = (table_of-zero, table_of-suc, join_below-zero, append-nil, append_assoc)

-- one list more, and the item that a walk is at
pub ruleset join_steps = (table_steps, join_below-suc, get_or_read)
