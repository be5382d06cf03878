-- What is known of a link once its ranges were judged, and what reading it needs.
use Rattle.std.specs.Prelude.{◌≤◌, length, codes}
use Rattle.toml.specs.Data.{Members}
use Rattle.network_file.specs.Documents.{numbers_at}

-- a link has a rate for 240 steps at most
abbrev pub HasFewRates : Members → Type 0
HasFewRates ms = length (numbers_at (codes "rates") ms) ≤ 240
