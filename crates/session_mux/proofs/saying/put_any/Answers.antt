use Rattle.std.proofs.lemmas.Result.{err_from_is_err_and}
use Rattle.session_mux.proofs.saying.put_any.Goals as goal

pub returns-in_err-put_said : goal.returns-in_err-put_said
returns-in_err-put_said c =
    let p = err_from_is_err_and c.from_residual.result c.from_residual.ensures.1 in
    rw p.1 (record {
      line = c.first_line.result.0.now;
      rest = c.first_line.result.1.now;
      is = c.first_line.ensures.line;
      cut = c.in_err-put_said.ensures.err;
      begins = c.put_said.ensures.begins;
    })

pub returns : goal.returns
returns c = record {
  line = c.first_line.result.0.now;
  is = c.first_line.ensures.line;
  added = c.in_ok-put_said.ensures.ok;
  begins = c.put_said.ensures.begins;
  shorter = c.first_line.ensures.shorter;
}
