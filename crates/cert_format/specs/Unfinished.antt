-- The bytes of a line whose line feed has not come yet. A line that can still name a leaf is kept with the first of its pairs alone, and
-- one that can name nothing any more as a short one that names nothing either.
use Rattle.std.specs.Prelude.{◌≡◌, ℕ, ◌+◌, ◌*◌, ◌==◌, max, List, ◌++◌, length, option_map}
use Rattle.std.specs.Str.{bytes_eq}
use Rattle.certificate_model.specs.Text.{bound_in, end_line, head_line, node_in}
use Rattle.cert_format.specs.Marks.{with_first}
use Rattle.cert_format.specs.declared.spare.TheConstants.{LEAF_BYTES, PAIR_BYTES}
use Rattle.cert_format.specs.declared.unfinished.TheConstants.{UNSEEN_BYTES}

-- bytes that are kept of a line, and how many of the pairs of a leaf are looked at
pub record Kept : Type 0 where
  pub bytes : List ℕ
  pub most : ℕ

-- bytes are read as those of a line are, whatever comes behind both: as a node with the first of its pairs, a bound, the first line, the
-- last one; and there are some exactly where the line has some
pub record ReadsAs (most : ℕ) (kept line : List ℕ) : Type 0 where
  pub node : (more : List ℕ) → option_map (with_first most) (node_in (kept ++ more)) ≡ option_map (with_first most) (node_in (line ++ more))
  pub bound : (more : List ℕ) → bound_in (kept ++ more) ≡ bound_in (line ++ more)
  pub head : (more : List ℕ) → bytes_eq (kept ++ more) head_line ≡ bytes_eq (line ++ more) head_line
  pub last : (more : List ℕ) → bytes_eq (kept ++ more) end_line ≡ bytes_eq (line ++ more) end_line
  pub none : (length kept == 0) ≡ (length line == 0)

-- the most bytes of the line of a leaf with so many pairs, and of one pair more that is not whole
abbrev pub leaf_bytes : ℕ → ℕ
leaf_bytes most = PAIR_BYTES * most + LEAF_BYTES

-- the most bytes that are kept of a line: those that were not looked at, or twice those of a leaf
abbrev pub kept_bytes : ℕ → ℕ
kept_bytes most = max UNSEEN_BYTES (2 * leaf_bytes most)
