use Rattle.std.proofs.Common.{◌≡◌, List, length}
use Rattle.stl_syntax.specs.Formula.{Formula}
use Rattle.session_mux.specs.Sessions.{Tagged}
use Rattle.session_mux.specs.Knowing.{shown, tag_list, Knows}
use Rattle.session_mux.proofs.AnsweringLemmas.{Ending}
use Rattle.session_mux.proofs.known.Known.end.Given as goal

abbrev pub invariant-loop-place : goal.invariant-loop-place
invariant-loop-place l = record {
  ending : (f : Formula) (seen : List Tagged) → Knows f seen (shown l.initial.self)
      → Ending f seen l.initial.self.sessions.items l.place l.self.sessions.items l.initial.out l.out;
  tags : tag_list l.self.sessions.items ≡ tag_list l.initial.self.sessions.items;
  formula : l.self.formula ≡ l.initial.self.formula;
  size : length l.self.sessions.items ≡ length l.initial.self.sessions.items;
}
