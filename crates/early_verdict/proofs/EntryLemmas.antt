-- What comes to the sets of all nodes, by ticks.
use Rattle.std.proofs.Common.{◌≡◌, refl, sym, subst, ◌∙◌, ℕ, ◌≤◌, ◌^◌, Bool, true, false, Some, None, List, [], ◌∷◌, ◌++◌, pos, lit≤, arith}
use Rattle.rational.specs.Rational.{IsWithin}
use Rattle.rational.specs.Time.{whole}
use Rattle.rational.proofs.Order.{le_trans, le_of_lt, same_sym}
use Rattle.rational.proofs.Mixed.{within_same, within_more, within_whole}
use Rattle.frac128.specs.Value.{value}
use Rattle.stl_syntax.specs.Trace.{Header, Row}
use Rattle.stl_syntax.proofs.RowsLemmas.{last_time-push}
use Rattle.rational.specs.Places.{Place, AtMost, Same}
use Rattle.frac128.specs.Cuts.{place}
use Rattle.early_verdict.specs.Happening.{Happens}
use Rattle.early_verdict.specs.Deciding.{last_after, trace_of}
use Rattle.frac128.specs.declared.cut.Cut.{Cut}
use Rattle.early_verdict.specs.declared.entry.Entry.{Entry}
use Rattle.rational.proofs.PlaceLemmas.{upto_same, same_places}
use Rattle.early_verdict.proofs.RowLemmas.{last_is}

-- just before a tick, and just after it
abbrev pub before_of : ℕ → Place
before_of n = record { at = whole (pos n); after = false }

-- just after a time in ticks
abbrev pub after_of : ℕ → Place
after_of n = record { at = whole (pos n); after = true }

-- a cut at a tick keeps within the limits of times
pub near_tick : (c : Cut) (n : ℕ) (after : Bool) → n ≤ 2 ^ 32 → Same (place c) (record { at = whole (pos n); after = after }) → IsWithin (2 ^ 34) (value c.time)
near_tick c n after h s = within_same (2 ^ 34) (same_sym s.0) (within_more (2 ^ 32) (2 ^ 34) (lit≤ tt) (within_whole (2 ^ 32) (pos n) h))

-- later ticks give later places
pub up_to : (c d : Place) (m n : ℕ) → m ≤ n → Same c (after_of m) → Same d (after_of n) → AtMost c d
up_to c d m n h s r t u = upto_same (after_of n) d t (same_places r) (le_trans (upto_same c (after_of m) t s u) (record { le = omega (arith, h) }))

-- just before a time is no later than just after it
pub up_to_now : (c d : Place) (n : ℕ) → Same c (before_of n) → Same d (after_of n) → AtMost c d
up_to_now c d n s r t u = upto_same (after_of n) d t (same_places r) (le_of_lt (upto_same c (before_of n) t s u))

-- this is what comes with the first row
pub happens_first : {e : Entry} {n : ℕ} {header : Header} {x : Row} → Same (place e.start) (before_of n)
    → Same (place e.before) (before_of n) → Same (place e.sure) (after_of n)
    → e.first ≡ true → e.ended ≡ false → n ≡ x.time → Happens e None (trace_of header (x ∷ []))
happens_first {e} s b u f o is = record {
  starts = subst (λ k. Same (place e.start) (before_of k)) is s;
  sure_to = subst (λ k. Same (place e.sure) (after_of k)) is u;
  sure_before = subst (λ k. Same (place e.before) (before_of k)) is b;
  is_first = (f, o);
}

-- this is what comes with a later row
pub happens_next : {e : Entry} {start last n : ℕ} {header : Header} {r : Row} {rows : List Row} (x : Row)
    → Same (place e.start) (before_of start) → Same (place e.before) (after_of last)
    → Same (place e.sure) (after_of n)
    → e.first ≡ false → start ≡ r.time → last ≡ (last_after r rows).time → n ≡ x.time
    → Happens e (Some (trace_of header (r ∷ rows))) (trace_of header (r ∷ (rows ++ x ∷ [])))
happens_next {e} {r = r} {rows = rows} x s b u f is_start is_last is_now = record {
  starts = subst (λ k. Same (place e.start) (before_of k)) is_start s;
  sure_to = subst (λ k. Same (place e.sure) (after_of k)) (is_now ∙ sym (last_time-push r.time rows x)) u;
  sure_before = (refl, subst (λ k. Same (place e.before) (after_of k)) (is_last ∙ sym (last_is r rows)) b);
  is_first = f;
}

-- this is what comes with the end
pub happens_end : {e : Entry} {start last : ℕ} {header : Header} {r : Row} {rows : List Row}
    → Same (place e.start) (before_of start) → Same (place e.before) (after_of last)
    → Same (place e.sure) (after_of last)
    → e.first ≡ false → start ≡ r.time → last ≡ (last_after r rows).time
    → Happens e (Some (trace_of header (r ∷ rows))) (trace_of header (r ∷ rows))
happens_end {e} {r = r} {rows = rows} s b u f is_start is_last = record {
  starts = subst (λ k. Same (place e.start) (before_of k)) is_start s;
  sure_to = subst (λ k. Same (place e.sure) (after_of k)) (is_last ∙ sym (last_is r rows)) u;
  sure_before = (refl, subst (λ k. Same (place e.before) (after_of k)) (is_last ∙ sym (last_is r rows)) b);
  is_first = f;
}
