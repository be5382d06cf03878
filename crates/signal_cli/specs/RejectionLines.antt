-- The lines of `check` and `gap` for a certificate that is not accepted (README.md, "Commands").
use Rattle.std.specs.Prelude.{ℕ, List, ◌++◌, codes}
use Rattle.std.specs.Fmt.{decimal, signed_decimal}
use Rattle.certificate_model.specs.declared.verdict.Why.{Why}
use Rattle.certificate_model.specs.declared.verdict.Why.TheVariants.{Form, Tail, Column, Range, Row, Order, Price, Sign, Weak, NotEmpty, NotFixed, NotPlan}

-- why a line breaks a certificate, and on a line of its own the value that is too small
abbrev pub why_text : Why → List ℕ
why_text Form = codes "form"
why_text Tail = codes "tail"
why_text Column = codes "column"
why_text Range = codes "range"
why_text Row = codes "row"
why_text Order = codes "order"
why_text Price = codes "price"
why_text Sign = codes "sign"
why_text (Weak number) = codes "weak\nvalue " ++ signed_decimal number
why_text (NotEmpty value) = codes "notempty\nvalue " ++ signed_decimal value
why_text NotFixed = codes "notfixed"
why_text NotPlan = codes "notplan"

-- a certificate is not accepted: its first line that breaks, and why
unfoldable pub rejected_lines : ℕ → Why → List ℕ
rejected_lines number why = codes "rejected\nline " ++ decimal number ++ codes "\nwhy " ++ why_text why ++ codes "\n"

-- a certificate is longer than its limit, and no line of it was judged
unfoldable pub long_lines : List ℕ
long_lines = codes "rejected\nline 0\nwhy long\n"
