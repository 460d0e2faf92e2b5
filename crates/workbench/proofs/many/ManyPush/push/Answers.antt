use Rattle.workbench.proofs.ManyLines.{many_pushed}
use Rattle.workbench.proofs.many.ManyPush.push.Goals as goal

pub feed-fed-requires : goal.feed-fed-requires
feed-fed-requires g c = let (bytes, text, p) = c.requires in record { formula = c.args.self.now.formula; bytes = bytes; written = text; is = p.stands.taking }

pub returns-clause-pushed : goal.returns-clause-pushed
returns-clause-pushed g c = λ bytes text p.
    let f = c.args.self.now.formula in
    many_pushed f c.feed-fed.new.self c.write_made.new.input _ _ bytes c.args.piece.now text p.owed c.feed-fed.result c.write_made.result
    c.write_made.ensures.written
    (c.feed-fed.ensures f bytes text p.stands.taking) c.write_made.ensures.done
