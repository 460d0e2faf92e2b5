-- Sets that stand for the rows so far, up to one of them, stand for them where more rows have come behind.
use Rattle.std.proofs.Common.{◌≡◌, ℕ, ◌<◌, false, List, [], ◌∷◌, ◌++◌, length, refl, ◌∙◌, subst, arith, append_assoc}
use Rattle.std.proofs.lemmas.Bool.{false≢true}
use Rattle.stl_syntax.specs.Trace.{Header, Row, Trace, Continues, first_time}
use Rattle.stl_syntax.specs.declared.node.Node.{Node}
use Rattle.atom_lines.specs.Binding.{Binding}
use Rattle.truth_sets.specs.Growing.{IsTidy, TellsUpto}
use Rattle.truth_sets.specs.Rows.{HasGrown}
use Rattle.truth_sets.specs.Standing.{StandFor}
use Rattle.truth_sets.specs.declared.atom.NodeSet.{NodeSet}
use Rattle.truth_sets.specs.declared.growing.TruthSets.{TruthSets}

-- the first of the rows stays
first_stays : (rows more : List Row) → 0 < length rows → first_time rows ≡ first_time (rows ++ more)
first_stays [] more some = absurd (omega arith)
first_stays (r ∷ rows) more some = refl

-- a trace that goes on from more rows goes on from the first of them
goes_on_shorter : (tr : Trace) (header : Header) (rows more : List Row) → Continues tr header (rows ++ more) false → Continues tr header rows false
goes_on_shorter tr header rows more goes = record {
  same_header = goes.same_header;
  more = more ++ goes.more;
  begins = goes.begins ∙ append_assoc rows more goes.more;
  whole_input = λ e. absurd (false≢true e);
}

module _ (b : Binding) (header : Header) (rows more : List Row) (some : 0 < length rows) (r : Row) where
  -- the set of an atom tells it over the rows up to the one, whatever comes behind
  grown_longer : (i : ℕ) (s : NodeSet) → HasGrown b i header rows r s → HasGrown b i header (rows ++ more) r s
  grown_longer i s g = record {
    sum = g.sum;
    tidy = subst (λ n. IsTidy n r.time s.times) (first_stays rows more some) g.tidy;
    tells = subst (λ n. TellsUpto b i header (rows ++ more) n r.time s.times) (first_stays rows more some)
        (λ a tr for goes t low high. g.tells a tr for (goes_on_shorter tr header rows more goes) t low high);
  }

  -- and so the sets stand for them
  pub stand_longer : (x : TruthSets) (nodes : List Node) → StandFor x b nodes header rows r → StandFor x b nodes header (rows ++ more) r
  stand_longer x nodes s = record {
    first = s.first ∙ first_stays rows more some;
    grown = record { count = s.grown.count; each = λ i a set at there. grown_longer i set (s.grown.each i a set at there) };
  }
