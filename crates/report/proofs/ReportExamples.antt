-- The report as JSON and as a table at one instant.
use Rattle.std.proofs.Common.{[], ◌∷◌, ◌++◌, refl, negsuc, lit<, false}
use Rattle.std.specs.Prelude.{codes}
use Rattle.std.specs.Fmt.{digits}
use Rattle.serde_json.specs.Data.{Data, boolean, string, array, object, no_items, item, no_members, member}
use Rattle.csv.specs.Writing.{fields_text, is_blank}
use Rattle.rational.specs.Time.{whole}
use Rattle.rational.specs.Extended.{finite}
use Rattle.stl_syntax.specs.Formula.{Formula, subformula}
use Rattle.stl_syntax.specs.Knots.{Knots}
use Rattle.stl_syntax.specs.Texts.{IsNumberText, newline}
use Rattle.stl_syntax.specs.Print.{IsAtomText, IsPrintedFormula, IsDecimalText}
use Rattle.report.specs.Json.{IsReportData}
use Rattle.report.specs.Table.{IsTableText}
use Rattle.stl_syntax.specs.declared.items.Item.{Item}
use Rattle.stl_syntax.specs.declared.node.Node.TheVariants.{Atom as Leaf}
use Rattle.stl_syntax.proofs.Examples.{at_least_5, at_time, no_digits}
use Rattle.stl_syntax.proofs.InstantExamples.{false_at_0, one_divisor, zero_text}
use Rattle.report.proofs.FurtherExamples.{zero_span}

abbrev x_formula : Formula
x_formula = record { nodes = Leaf at_least_5 ∷ []; scale = no_digits }

abbrev one_knot : Knots
one_knot = record { first = record { time = at_time 0; value = finite (whole (negsuc 4)) }; pieces = [] }

abbrev false_item : Item
false_item = record { node = 0; on = false_at_0.on; holds = false }

minus_five : IsNumberText 0 (whole (negsuc 4)) (codes "-5")
unfolding digits
minus_five = record {
  num = negsuc 4;
  den = 1;
  lowest = record { positive = lit< tt; coprime = λ k a b. one_divisor k b };
  same = record { same = refl };
  is = refl;
}

five : IsDecimalText 0 5 (codes "5")
unfolding digits
five = record { whole = 5; decimals = []; are_digits = refl; fewest = refl; same = refl; is = refl }

x_atom_text : IsAtomText no_digits at_least_5 (codes "x >= 5")
x_atom_text = (codes "5", five, refl)

x_formula_text : IsPrintedFormula x_formula (codes "x >= 5")
unfolding subformula
x_formula_text = x_atom_text

abbrev x_report : Data
x_report = object (member (codes "formula") (string (codes "x >= 5"))
    (member (codes "items") (array (item (object (member (codes "atom") (string (codes "x >= 5"))
    (member (codes "on") (string (codes "[0,0]")) (member (codes "value") (boolean false) no_members)))) no_items))
    (member (codes "margins")
    (array (item (object (member (codes "at") (string (codes "0")) (member (codes "margin") (string (codes "-5")) no_members))) no_items))
    (member (codes "start") (boolean false)
    (member (codes "verdicts")
    (array (item (object (member (codes "on") (string (codes "[0,0]")) (member (codes "value") (boolean false) no_members))) no_items)) no_members)))))

report_data : IsReportData no_digits x_formula (false_at_0 ∷ []) one_knot (false_item ∷ []) false x_report
report_data = (
  codes "x >= 5",
  _,
  _,
  _,
  x_formula_text,
  (at_least_5, refl, (codes "x >= 5", codes "[0,0]", no_items, x_atom_text, zero_span, refl, refl)),
  (_, no_items, (codes "0", codes "-5", zero_text _ (record { same = refl }), minus_five, refl), refl, refl),
  (codes "[0,0]", no_items, zero_span, refl, refl),
  refl,
)

-- the table
table_text : IsTableText no_digits one_knot (codes "time,margin,from,to" ++ newline ++ codes "0,-5,," ++ newline)
unfolding fields_text is_blank
table_text = (_, (codes "0", codes "-5", zero_text _ (record { same = refl }), minus_five, refl), refl)
