use Rattle.std.proofs.Common.{◌≡◌, ◌++◌, drop, map, string_bytes}
use Rattle.std.specs.Vec.Iter.{into_iter_items, into_iter_len}
use Rattle.signal_cli.proofs.program.words_behind.Given as goal

-- the words so far and those that are still to come are all of them
abbrev pub invariant-words : goal.invariant-words
invariant-words l = l.words ++ map string_bytes (into_iter_items l.args) ≡ map string_bytes (drop 1 (into_iter_items l.fn.args))

abbrev pub decreases-words : goal.decreases-words
decreases-words l = into_iter_len l.args
