-- Rows more of what is kept.
use Rattle.std.proofs.Common.{Some, take, sym, subst, append-nil}
use Rattle.trace_stream.specs.Kept.{IsKeptAs, with_rows}
use Rattle.trace_stream.proofs.RowsKept.{so_far, kept_rows, case_of}
use Rattle.trace_stream.proofs.case_reader.take_rows.Goals as goal

pub take_rows-requires : goal.take_rows-requires
take_rows-requires g c =
    let f = c.requires.0 in
    let k = c.requires.1.is in
    let (case, is, stands) = case_of g.K.Keep.stands c.args.kept.now k.case c.in-Some.kept c.in-Some.is k.for_case in
    (case, stands, so_far f c.args.rows.now k.case case c.requires.1.bytes is k.is)

pub returns-in-None-clause-taken : goal.returns-in-None-clause-taken
returns-in-None-clause-taken g c = λ f bytes k. subst (IsKeptAs g.K.Keep.stands f c.args.rows.now c.args.kept.now) (sym (append-nil bytes)) k

pub returns-in_ok-take_rows-in-Some-clause-taken : goal.returns-in_ok-take_rows-in-Some-clause-taken
returns-in_ok-take_rows-in-Some-clause-taken g c = λ f bytes k.
    let e = c.in_ok-take_rows-in-Some.ensures in
    let (case, is, stands) = case_of g.K.Keep.stands c.args.kept.now k.case c.in-Some.kept c.in-Some.is k.for_case in
    let m = e.taken case stands (so_far f c.args.rows.now k.case case bytes is k.is) in
    record {
      case = Some (with_rows m.more case);
      for_case = m.kept;
      is = kept_rows f c.args.rows.now c.take_rows.new.rows k.case case bytes (take c.in_ok-take_rows-in-Some.field-0 c.args.piece.now) m.more is k.is m.stands e.kept.1 e.kept.2;
    }
