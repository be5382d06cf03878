-- Texts that were worked by hand (docs/program.md, "Texts"), which the definitions compute.
use Rattle.std.proofs.Common.{◌≡◌, true, false, [], ◌∷◌, Ok, Err, refl}
use Rattle.std.specs.Prelude.{codes, pos, negsuc}
use Rattle.std.specs.Fmt.{digits}
use Rattle.texts.specs.Lines.{lines_of}
use Rattle.sparse_program.specs.Program.{Parts}
use Rattle.program_text.specs.ProgramText.{program_text}
use Rattle.program_text.specs.PointText.{point_text, spelled_point}
use Rattle.program_text.specs.declared.fault.PointFault.TheVariants.{Form}

-- one cell over one step: 3 units wait, and at most 2 leave
abbrev pub one_cell : Parts
one_cell = record {
  columns =
      (record { low = pos 3; high = pos 3; cost = pos 1 })
      ∷ (record { low = pos 0; high = pos 2; cost = negsuc 0 })
      ∷ (record { low = pos 0; high = pos 1; cost = pos 0 })
      ∷ (record { low = pos 0; high = pos 1; cost = pos 0 })
      ∷ [];
  rows =
      (record { equal = true; rhs = pos 1; terms = (2, pos 1) ∷ (3, pos 1) ∷ [] })
      ∷ (record { equal = false; rhs = negsuc 1; terms = (1, negsuc 0) ∷ (3, negsuc 0) ∷ [] })
      ∷ (record { equal = false; rhs = pos 0; terms = (0, pos 1) ∷ (1, negsuc 0) ∷ [] })
      ∷ (record { equal = false; rhs = pos 0; terms = (1, pos 1) ∷ (2, negsuc 1) ∷ [] })
      ∷ (record { equal = false; rhs = negsuc 2; terms = (0, negsuc 0) ∷ (1, pos 1) ∷ (3, negsuc 2) ∷ [] })
      ∷ [];
  plan_cols = 0;
}

pub its_text : program_text one_cell ≡ codes "ctm-program 1\ncolumns 4 0\n3 3 1\n0 2 -1\n0 1 0\n0 1 0\nrows 5\neq 1 2:1 3:1\nge -2 1:-1 3:-1\nge 0 0:1 1:-1\nge 0 1:1 2:-2\nge -3 0:-1 1:1 3:-3\nend\n"
unfolding program_text digits
its_text = refl

-- its one point
pub a_point : point_text (pos 3 ∷ pos 2 ∷ pos 1 ∷ pos 0 ∷ []) ≡ codes "ctm-point 1\n3\n2\n1\n0\nend\n"
unfolding point_text digits
a_point = refl

pub no_value : spelled_point (codes "ctm-point 1\nend\n") ≡ Ok []
unfolding spelled_point lines_of point_text digits
no_value = refl

pub a_read_point : spelled_point (codes "ctm-point 1\n3\n-2\nend\n") ≡ Ok (pos 3 ∷ negsuc 1 ∷ [])
unfolding spelled_point lines_of point_text digits
a_read_point = refl

-- nothing, and another first line
pub an_empty_text : spelled_point [] ≡ Err (Form 1)
unfolding spelled_point lines_of point_text digits
an_empty_text = refl

pub another_first_line : spelled_point (codes "ctm-point 2\n3\nend\n") ≡ Err (Form 1)
unfolding spelled_point lines_of point_text digits
another_first_line = refl

-- a second spelling of 3
pub a_leading_zero : spelled_point (codes "ctm-point 1\n1\n03\n5\nend\n") ≡ Err (Form 3)
unfolding spelled_point lines_of point_text digits
a_leading_zero = refl

-- the end is wanting, or its line feed
pub no_end : spelled_point (codes "ctm-point 1\n3\n") ≡ Err (Form 3)
unfolding spelled_point lines_of point_text digits
no_end = refl

pub no_last_line_feed : spelled_point (codes "ctm-point 1\n3\nend") ≡ Err (Form 3)
unfolding spelled_point lines_of point_text digits
no_last_line_feed = refl

-- a byte behind the end, and a line
pub a_byte_behind_the_end : spelled_point (codes "ctm-point 1\n3\nend\nx") ≡ Err (Form 4)
unfolding spelled_point lines_of point_text digits
a_byte_behind_the_end = refl

pub a_line_behind_the_end : spelled_point (codes "ctm-point 1\n3\nend\n5\n") ≡ Err (Form 4)
unfolding spelled_point lines_of point_text digits
a_line_behind_the_end = refl
