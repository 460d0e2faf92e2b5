use Rattle.std.proofs.Common.{Bool, not, [], ◌∷◌, ◌++◌, subst, sym, ap, ◌∙◌}
use Rattle.std.specs.Prelude.{cond}
use Rattle.rational.specs.Places.{Before}
use Rattle.time_sets.specs.Turns.{place}
use Rattle.time_sets.specs.Sets.{turned, Rise, BeginAfter, EndBefore}
use Rattle.time_sets.proofs.SetLemmas.{turned_not, turned_last, rise_last, end_last, begin_last, behind_not_before, upto_not_before}
use Rattle.time_sets.proofs.making.put.Goals as goal

-- a truth, turned where the test says so
abbrev turned_by : Bool → Bool → Bool
turned_by x b = cond x (not b) b

pub returns-then-not-is_behind_begin : goal.returns-then-not-is_behind_begin
returns-then-not-is_behind_begin c = record {
  times = λ t l. let h = behind_not_before (place c.args.on.now.from) (place c.args.at) t
      (λ b. let e = c.is_behind_begin.ensures.1 b in let f = c.if-not-is_behind_begin.true in cc) l.0 in
      turned_not c.args.made.now.starts c.args.made.now.turns.items t
      ∙ sym (ap (λ x. turned_by x (turned c.args.made.now.starts c.args.made.now.turns.items t)) h);
  rise = c.requires.rise;
  begins = c.requires.begins;
  ends = c.requires.ends;
  last = λ p h b. h;
}

pub returns-else-precedes : goal.returns-else-precedes
returns-else-precedes c = record {
  times = λ t l. let h = upto_not_before (place c.args.at) (place c.args.on.now.to) t
      (λ b. let e = c.precedes.ensures.1 b in let f = c.if-precedes.false in cc) l.1 in
      sym (ap (λ x. turned_by x (turned c.args.made.now.starts c.args.made.now.turns.items t)) h);
  rise = c.requires.rise;
  begins = c.requires.begins;
  ends = c.requires.ends;
  last = λ p h b. h;
}

pub returns-in_ok-push : goal.returns-in_ok-push
returns-in_ok-push c =
    let items = c.in_ok-push.ensures.items in
    let before : Before (place c.args.on.now.from) (place c.args.at) = c.is_behind_begin.ensures.0 c.if-not-is_behind_begin.false in
    let inside : Before (place c.args.at) (place c.args.on.now.to) = c.precedes.ensures.0 c.if-precedes.true in
    record {
      times = λ t l. ap (λ xs. turned c.push.new.self.starts xs t) items
          ∙ ap (λ b. turned b (c.args.made.now.turns.items ++ c.args.at ∷ []) t) c.in_ok-push.ensures.starts
          ∙ turned_last c.args.made.now.starts c.args.made.now.turns.items c.args.at t c.requires.last;
      rise = subst Rise (sym items) (rise_last c.args.made.now.turns.items c.args.at c.requires.rise c.requires.last);
      begins = subst (BeginAfter (place c.args.on.now.from)) (sym items)
          (begin_last (place c.args.on.now.from) c.args.made.now.turns.items c.args.at c.requires.begins before);
      ends = subst (EndBefore (place c.args.on.now.to)) (sym items)
          (end_last (place c.args.on.now.to) c.args.made.now.turns.items c.args.at c.requires.ends inside);
      last = λ p h b. subst (EndBefore p) (sym items) (end_last p c.args.made.now.turns.items c.args.at h b);
    }
