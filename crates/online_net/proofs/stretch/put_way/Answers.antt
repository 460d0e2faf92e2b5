use Rattle.std.proofs.Common.{◌≡◌, ◌+◌, ◌-◌, ◌<◌, sym, subst, ◌∙◌, arith}
use Rattle.rational.proofs.Order.{le_of_lt, same_refl}
use Rattle.stl_syntax.specs.Trace.{row_time}
use Rattle.atom_lines.specs.Growing.{IsReachAt}
use Rattle.atom_lines.specs.Rows.{row_of}
use Rattle.atom_lines.proofs.WayLemmas.{sum_read}
use Rattle.online_net.specs.Stretches.{HasPutRows, HasPutStretch, StaysOver}
use Rattle.online_net.proofs.EdgeRows.{each_more, rows_count}
use Rattle.online_net.proofs.stretch.put_way.Goals as goal
use Rattle.online_net.proofs.stretch.put_way.Goals.{After-way_from-way}

pub way_from-way-requires-clause-from : goal.way_from-way-requires-clause-from
way_from-way-requires-clause-from c =
    let b = c.args.bound.now in
    let block = c.args.block.now in
    let here = c.args.here.now in
    let h = c.requires.come.2.sum in
    subst (IsReachAt b c.args.node block here.at) (sym (sum_read b c.args.node block here.at here.sum c.requires.atom h)) h

-- the truth stays up to the last gap of the way
stays : (c : After-way_from-way) → StaysOver c.args.bound.now c.args.node c.args.block.now c.args.here.now.at (c.way_from-way.result.row - 1) c.args.here.now.holds
stays c = λ a tr for has t low high. (c.way_from-way.ensures.way.tells a tr for has).stays t (le_of_lt low) high ∙ c.requires.come.2.holds a tr for has

pub put_inside-requires-clause-order : goal.put_inside-requires-clause-order
put_inside-requires-clause-order c = let l = c.way_from-way.ensures.way.later in omega (arith, l)

pub put_inside-requires-clause-within : goal.put_inside-requires-clause-within
put_inside-requires-clause-within c = let w = c.way_from-way.ensures.way.within in omega (arith, w)

pub put_inside-requires-clause-before : goal.put_inside-requires-clause-before
put_inside-requires-clause-before c =
    let (first, e, k) = c.requires.come in (
      c.args.bound.now,
      first,
      e,
      record {
        order = k.order;
        put = k.put;
        stays = stays (goal.at.put_inside-requires-clause-before c).After-way_from-way;
      },
    )

pub put_gap-requires-clause-edge : goal.put_gap-requires-clause-edge
put_gap-requires-clause-edge c =
    let b = c.args.bound.now in
    let block = c.args.block.now in
    let (first, e, k) = c.requires.come in
    let put = c.in_ok-put_inside.ensures b first e
    (record { order = k.order; put = k.put; stays = stays (goal.at.put_gap-requires-clause-edge c).After-way_from-way }) in
    subst (λ n. c.args.node < n) (rows_count b block c.args.node k.put ∙ sym (rows_count b block c.args.node put)) c.requires.edge

pub put_gap-requires-clause-some : goal.put_gap-requires-clause-some
put_gap-requires-clause-some c = let l = c.way_from-way.ensures.way.later in omega (arith, l)

pub put_gap-requires-clause-within : goal.put_gap-requires-clause-within
put_gap-requires-clause-within c = c.way_from-way.ensures.way.within

pub put_gap-requires-clause-way : goal.put_gap-requires-clause-way
put_gap-requires-clause-way c = (c.args.bound.now, c.args.here.now.at, c.way_from-way.ensures.way)

pub returns-clause-on : goal.returns-clause-on
returns-clause-on c = c.way_from-way.ensures.way.later

pub returns-clause-within : goal.returns-clause-within
returns-clause-within c = c.way_from-way.ensures.last

pub returns-clause-come : goal.returns-clause-come
returns-clause-come c = λ first e k.
    let b = c.args.bound.now in
    let block = c.args.block.now in
    let i = c.args.node in
    let w = c.way_from-way.result in
    let way = c.way_from-way.ensures.way in
    let l = way.later in
    let m = way.within in
    let o = k.order in
    let next : w.row - 1 + 1 ≡ w.row = omega (arith, l) in
    let put = c.in_ok-put_inside.ensures b first e
    (record {
      order = k.order;
      put = k.put;
      stays = λ a tr for has t low high. (way.tells a tr for has).stays t (le_of_lt low) high ∙ k.holds a tr for has;
    }) in
    record {
      order = omega (arith, o, l);
      put = subst (λ n. HasPutRows b block first n i e c.put_gap.new.edges) next
          (each_more b block i first (w.row - 1) (omega (arith, o, l)) (omega (arith, l, m)) put
          (subst (λ n. HasPutStretch b block (w.row - 1) n i c.put_inside.new.edges c.put_gap.new.edges) (sym next)
          (c.in_ok-put_gap.ensures b c.args.here.now.at way)));
      sum = subst (IsReachAt b i block w.row) (sym (sum_read b i block w.row w.sum c.requires.atom way.sum)) way.sum;
      holds = λ a tr for has. (way.tells a tr for has).there (row_time (row_of block w.row)) (same_refl (row_time (row_of block w.row)));
    }
