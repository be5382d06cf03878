-- Which fields a writer of comma-separated values takes as they are, and how it stands between two records.
use Rattle.std.specs.Prelude.{◌≡◌, ℕ, Bool, false, List}
use Rattle.std.specs.List.{list_all}
use Rattle.texts.specs.Names.{is_name_character}
use Rattle.csv.specs.Writing.{default_writer, fields_written, has_written, writer_setup}
use Rattle.csv.specs.declared.writer.Writer.{Writer}

-- a field of characters of names alone: no comma, no quote, no line feed
abbrev pub is_plain : List ℕ → Bool
is_plain field = list_all is_name_character field

-- a record may begin, with commas between fields and a line feed at its end
pub record IsBetween {W : Type 0} (writer : Writer W) : Type 0 where
  pub setup : writer_setup writer ≡ default_writer
  pub no_field : fields_written writer ≡ 0
  pub nothing_shown : has_written writer ≡ false
