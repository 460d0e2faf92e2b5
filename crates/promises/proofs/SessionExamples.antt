-- A session whose header lacks the formula's column, and one whose ticks are too small.
use Rattle.std.proofs.Common.{◌≡◌, arith, ℕ, List, [], ◌∷◌, ◌++◌, refl, inl, inr, Bool, true, false, pos, lit≤}
use Rattle.std.proofs.lemmas.List.Elements.{All-nil}
use Rattle.std.specs.Prelude.{codes, ◌≢◌, None}
use Rattle.std.specs.Fmt.{digits}
use Rattle.stl_syntax.specs.Formula.{Formula}
use Rattle.stl_syntax.specs.Texts.{newline}
use Rattle.trace_reader.specs.TraceText.{Line, lines, fields, Heading}
use Rattle.trace_reader.specs.TraceRefusals.{FaultFrom}
use Rattle.workbench.specs.InputFaults.{stream_limits, IsHeaderAt, here, later, Fault, unknown, IsInputFault, no_header_yet, faulted_header}
use Rattle.stl_syntax.specs.Binding.{IsUnknown}
use Rattle.std.proofs.lemmas.Bool.{false≢true}
use Rattle.report.specs.Report.{robust}
use Rattle.workbench.specs.Requests.{verdicts, stream, sessions, whole}
use Rattle.workbench.specs.Owed.{Owes, not_yet, sound as no_lines_fault}
use Rattle.workbench.specs.Ended.{HasFault, EndsWith, faulty, answered}
use Rattle.workbench.specs.Sessions.{none, Tagged, is_tag_byte, IsTagged, alone, followed, tag, Alone, MuxText, FaultOfInput, bad_tag}
use Rattle.stl_syntax.specs.declared.rel.Rel.TheVariants.{AtLeast}
use Rattle.stl_syntax.specs.declared.node.Node.TheVariants.{Atom as Leaf}
use Rattle.trace_reader.specs.declared.refusal.TraceRefusal.{TraceRefusal}
use Rattle.stl_syntax.proofs.Examples.{no_digits}
use Rattle.trace_reader.proofs.TraceRefusalExamples.{first_byte, no_line_fault, header_sound, x_heading, x_heading_read}

-- z >= 1073741824
abbrev z_formula : Formula
z_formula = record {
  nodes = Leaf (record { terms = record { coef = pos 1; name = codes "z" } ∷ []; rel = AtLeast; limit = pos 1073741824 }) ∷ [];
  scale = no_digits;
}

abbrev x_bytes : List ℕ
x_bytes = codes "time,x" ++ newline

has_line : {all : List Line} {n : ℕ} {h : Heading} → IsHeaderAt all n h → all ≢ []
has_line (here a b c) e = cc
has_line (later a b c) e = cc

no_heading : (n : ℕ) (h : Heading) → ¬ IsHeaderAt [] n h
no_heading n h a = has_line a refl

no_fault : (x : Fault) → ¬ IsInputFault stream_limits z_formula [] false x
unfolding lines
no_fault x (inl (n, h, a, l, k)) = no_heading n h a
no_fault x (inr (_, (r, (e, (t, z)), y))) = cc

-- before its header a session writes nothing
nothing_yet : Alone z_formula [] false []
unfolding lines
nothing_yet = (None, [], false, [], [], no_header_yet no_fault no_heading, refl, inl (no_fault, refl), refl)

-- the header itself is sound
sound : (r : TraceRefusal) → ¬ FaultFrom stream_limits no_digits false 1 (record { bytes = codes "time,x"; whole = true } ∷ []) r
unfolding fields
sound r (inl h) = no_line_fault stream_limits 1 (record { bytes = codes "time,x"; whole = true }) (lit≤ tt) (lit≤ tt) r h
sound r (inr (_, (w, inl h))) = header_sound r h
sound r (inr (_, (w, inr (_, (h, read, (e, ((t, u), z))))))) = cc

abbrev unknown_z : List ℕ
unknown_z = codes "line 1: unknown column z" ++ newline

abbrev lack : Fault
lack = unknown 1 0 0 (codes "z")

z_unknown : IsUnknown (x_heading).columns z_formula 0 0 (codes "z")
z_unknown = record {
  owner = _;
  lacking = _;
  at_atom = refl;
  at_term = refl;
  named = refl;
  no_column = λ h. cc;
  terms_before = All-nil _;
  nodes_before = All-nil _;
}

lacking : (ended : Bool) → IsInputFault stream_limits z_formula x_bytes ended lack
unfolding lines fields digits
lacking false = inl (1, x_heading, here refl refl x_heading_read, inl (0, 0, codes "z", z_unknown, refl), sound)
lacking true = inl (1, x_heading, here refl refl x_heading_read, inl (0, 0, codes "z", z_unknown, refl), sound)

-- the header lacks the column z, before the end and at it
lacks_z : (ended : Bool) → Alone z_formula x_bytes ended unknown_z
unfolding lines fields digits
lacks_z false = (None, [], false, [], unknown_z, faulted_header lack (lacking false) no_heading, refl, inr (lack, lacking false, refl), refl)
lacks_z true = (None, [], false, [], unknown_z, faulted_header lack (lacking true) no_heading, refl, inr (lack, lacking true, refl), refl)

-- one session that fails so, with the end of the input
one_session : MuxText z_formula (record { tag = codes "a"; content = codes "time,x" } ∷ []) true (codes "a " ++ unknown_z)
unfolding lines
one_session = (
  codes "a " ++ unknown_z,
  [],
  (codes "a " ++ unknown_z, [], ([], unknown_z, nothing_yet, lacks_z false, refl), refl, refl),
  (unknown_z, [], [], lacks_z false, lacks_z true, refl, refl),
  refl,
)

-- `-a 0,0` has no tag
tag_begins : {text : List ℕ} {t : Tagged} → IsTagged text t → is_tag_byte (first_byte text) ≡ true
tag_begins (alone (tag h k)) = grind (arith, h)
tag_begins (followed content (tag h k)) = grind (arith, h)

no_tag : FaultOfInput 1 [] (record { bytes = codes "-a 0,0"; whole = true } ∷ []) (bad_tag 1)
no_tag = inr ((λ x h. omega arith), inr ((λ x h. omega arith), (refl, inl ((λ h. let e = tag_begins h.1 in cc), refl))))

-- ---- the same as requests

-- `watch` is owed nothing before the header
watch_begins : Owes (stream verdicts z_formula) [] false []
unfolding lines
watch_begins = record { header = None; rows = []; whole = false; before = no_header_yet no_fault no_heading; is = refl }

-- `watch` of a header without its column ends with 4 and one line, and writes nothing
watch_lacks : EndsWith x_bytes false (stream verdicts z_formula) 4 unknown_z []
unfolding lines fields digits
watch_lacks = faulty (lack, lacking false, refl) (record {
  before = [];
  piece = x_bytes;
  parts = refl;
  short = lit≤ tt;
  at_end = λ e. absurd (false≢true e);
  sound = λ line h. no_fault h.0 h.1;
}) (record { header = None; rows = []; whole = false; before = faulted_header lack (lacking false) no_heading; is = refl })

-- `mux` of no bytes ends with 0 and writes nothing
mux_of_nothing : EndsWith [] true (sessions z_formula) 0 [] []
unfolding lines
mux_of_nothing = answered (
  refl,
  refl,
  record { tagged = []; whole = true; before = no_lines_fault (λ x h. h) none; is = ([], [], refl, refl, refl) },
  λ x h. h,
)

-- `mux` of a line without a tag has a fault
mux_without_tag : HasFault (sessions z_formula) (codes "-a 0,0" ++ newline) false (codes "line 1: bad tag" ++ newline)
unfolding lines digits
mux_without_tag = (bad_tag 1, no_tag, refl)

-- `robust` is owed nothing before the end
robust_waits : Owes (whole robust z_formula) x_bytes false []
robust_waits = not_yet
