-- What the body of a node did, whatever its kind.
use Rattle.std.proofs.Common.{◌≡◌, ◌≢◌, ◌⊎◌, inl, inr, refl, sym, ap, subst, ◌∙◌, ℕ, ◌+◌, ◌*◌, ℤ, pos, ◌+ℤ◌, get_or, ◌<◌}
use Rattle.std.proofs.Common.{◌≤◌, Bool, true, false, not, Option, Some, None, List, length, arith, length-append}
use Rattle.stl_syntax.specs.declared.items.Verdict.{Verdict}
use Rattle.std.proofs.lemmas.Int.{ints}
use Rattle.std.proofs.lemmas.List.{get_or-set_other, length-set}
use Rattle.online_nodes.specs.Held.{Held, no_edge, edge_at, fresh_at, held_at, with_edge, IsDroppedBy}
use Rattle.online_nodes.specs.Written.{IsSound, waiting}
use Rattle.online_nodes.specs.Working.{HasWorked, IsReadOn}
use Rattle.online_nodes.specs.Kinds.{held_in, inputs_of}
use Rattle.online_nodes.specs.Answering.{is_empty, looks_by, CanAnswer, HasBody, HasReleased}
use Rattle.online_nodes.specs.Answering.{HasReleasedTwo, HasSweptAll, HasToldAll, HasWorkedOn, IsInput, IsOperand}
use Rattle.online_nodes.specs.declared.answering.Outcome.{Outcome}
use Rattle.online_nodes.specs.declared.answering.Marks.{Marks}
use Rattle.online_nodes.specs.declared.kind.Kind.{Kind}
use Rattle.online_nodes.specs.declared.kind.Kind.TheVariants.{Const, Not, Join, Over, Until, Since}
use Rattle.online_nodes.specs.declared.window.Window.{Window}
use Rattle.online_nodes.specs.declared.writer.Out.{Out}
use Rattle.online_nodes.proofs.GotLemmas.{got-here, got-length, got-other}
use Rattle.online_nodes.proofs.WorkLemmas.{read_none}

-- what was put and read, and up to where the node is told
pub record HasCarried (kind : Kind) (old mid : Held) (out : Out) (told : Outcome) : Type 0 where
  -- what was put on the node's edge
  pub more : List Verdict
  -- the inputs were read on, and that was put
  pub worked : HasWorkedOn kind old mid out.edge more
  -- with what still waits it is at most two for each verdict that was held, and two
  pub owed : length more + waiting told.out.holds ≤ 2 * held_in old (inputs_of kind) + 2
  -- for the same edge
  pub edge : told.out.edge ≡ out.edge
  -- and what is told is sound
  pub sound : IsSound told.out

-- not all that an edge holds need be fresh
pub fresh_few : (e : Held) (j : ℕ) → length (fresh_at e j) ≤ length (held_at e j)
fresh_few e j = omega (arith, length-append (edge_at e j).seen (edge_at e j).fresh)

told_all : (kind : Kind) (holds : Bool) (old mid : Held) (out : Out) (marks : Marks) (told : Outcome) → out.edge < length old.edges
    → ((j : ℕ) → IsInput kind j → j ≢ out.edge) → out.holds ≡ None → HasToldAll old mid holds out marks told → HasCarried kind old mid out told
told_all kind holds old mid out marks told own apart none g =
    record {
      more = g.said.more;
      worked = record {
        count = got-length g.said.got;
        got = got-here g.said.got own;
        read = λ j is. read_none _ _ (got-other g.said.got j (apart j is));
        others = λ j other _. got-other g.said.got j other;
        start = g.said.got.start;
        spare = g.said.got.spare;
      };
      owed = omega (arith, g.said.owed, ap waiting none);
      edge = g.said.edge;
      sound = g.said.sound;
    }

-- one input, or two
pub worked_one : (kind : Kind) (j : ℕ) (old mid : Held) (own : ℕ) (more : List Verdict) → ((k : ℕ) → IsInput kind k → j ≡ k)
    → ((k : ℕ) → j ≡ k → IsInput kind k) → HasWorked old mid own j j more → HasWorkedOn kind old mid own more
worked_one kind j old mid own more only is g =
    record {
      count = g.count;
      got = g.got;
      read = λ k h. subst (λ (q : ℕ). IsReadOn (edge_at old q) (edge_at mid q)) (only k h) g.left_read;
      others = λ k other none. g.others k other (λ e. none (is k (sym e))) (λ e. none (is k (sym e)));
      start = g.start;
      spare = g.spare;
    }

-- the work of a node with two inputs on its inputs' edges is the work of its kind
pub worked_two : (kind : Kind) (left right : ℕ) (old mid : Held) (own : ℕ) (more : List Verdict)
    → ((k : ℕ) → IsInput kind k → (left ≡ k) ⊎ (right ≡ k)) → ((k : ℕ) → (left ≡ k) ⊎ (right ≡ k) → IsInput kind k)
    → HasWorked old mid own left right more → HasWorkedOn kind old mid own more
worked_two kind left right old mid own more only is g =
    record {
      count = g.count;
      got = g.got;
      read = λ k h. elim (only k h) [
        | inl e ↦ subst (λ (q : ℕ). IsReadOn (edge_at old q) (edge_at mid q)) e g.left_read
        | inr e ↦ subst (λ (q : ℕ). IsReadOn (edge_at old q) (edge_at mid q)) e g.right_read
      ];
      others = λ k other none. g.others k other (λ e. none (is k (inl (sym e)))) (λ e. none (is k (inr (sym e))));
      start = g.start;
      spare = g.spare;
    }

swept_all : {mid : Held} {marks : Marks} {told : Outcome} (kind : Kind) (w : Window) (old : Held) (out : Out) → out.edge < length old.edges
    → w.of ≢ out.edge → ((k : ℕ) → IsInput kind k → w.of ≡ k) → ((k : ℕ) → w.of ≡ k → IsInput kind k)
    → held_in old (inputs_of kind) ≡ length (held_at old w.of) + 0 → out.holds ≡ None → HasSweptAll w old mid out marks told
    → HasCarried kind old mid out told
swept_all {mid} {marks} {told} kind w old out own apart only is held none g = by_test (is_empty w) refl
  where
    by_test : (t : Bool) → is_empty w ≡ t → HasCarried kind old mid out told
    by_test true e = told_all kind (not w.seeks) old mid out marks told own (λ j h same. apart (only j h ∙ same)) none (g.empty e)
    by_test false e =
        let swept = g.swept e in
        record {
          more = swept.more;
          worked = worked_one kind w.of old mid out.edge swept.more only is swept.worked;
          owed = omega (arith, swept.owed, ap waiting none, held, fresh_few old w.of);
          edge = swept.edge;
          sound = swept.sound;
        }

-- at most one span waits
pub waiting_few : (o : Option Bool) → waiting o ≤ 1
waiting_few None = omega arith
waiting_few (Some h) = omega arith

-- the inputs are not the node itself
pub able_apart : (kind : Kind) (e : Held) (own : ℕ) (marks : Marks) → CanAnswer kind e own marks → (j : ℕ) → IsInput kind j → j ≢ own
able_apart (Const b) e own marks able j is = absurd is
able_apart (Not p) e own marks able j is = subst (λ (q : ℕ). q ≢ own) is able.1
able_apart (Join join inputs) e own marks able j (inl is) = subst (λ (q : ℕ). q ≢ own) is able.left_apart
able_apart (Join join inputs) e own marks able j (inr is) = subst (λ (q : ℕ). q ≢ own) is able.right_apart
able_apart (Over w) e own marks able j is = subst (λ (q : ℕ). q ≢ own) is able.apart
able_apart (Until u) e own marks able j (inl is) = subst (λ (q : ℕ). q ≢ own) is able.0.left_apart
able_apart (Until u) e own marks able j (inr is) = subst (λ (q : ℕ). q ≢ own) is able.0.right_apart
able_apart (Since s) e own marks able j (inl is) = subst (λ (q : ℕ). q ≢ own) is able.0.left_apart
able_apart (Since s) e own marks able j (inr is) = subst (λ (q : ℕ). q ≢ own) is able.0.right_apart

-- the body of a node put no more than was owed, onto its own edge, and read on in its inputs' edges
pub carried : (kind : Kind) (old mid : Held) (out : Out) (marks : Marks) (told : Outcome) → out.edge < length old.edges
    → ((j : ℕ) → IsInput kind j → j ≢ out.edge) → out.holds ≡ None → HasBody kind old mid out marks told → HasCarried kind old mid out told
carried (Const b) old mid out marks told own apart none g = told_all (Const b) b old mid out marks told own apart none g
carried (Not p) old mid out marks told own apart none (g, kept) =
    record {
      more = g.more;
      worked = worked_one (Not p) p old mid out.edge g.more (λ k h. h) (λ k h. h) g.worked;
      owed = omega (arith, g.few, waiting_few told.out.holds, fresh_few old p);
      edge = g.edge;
      sound = g.sound;
    }
carried (Join join inputs) old mid out marks told own apart none (g, kept) =
    record {
      more = g.more;
      worked = worked_two (Join join inputs) inputs.left inputs.right old mid out.edge g.more (λ k h. h) (λ k h. h) g.worked;
      owed = omega (arith, g.few, waiting_few told.out.holds, fresh_few old inputs.left, fresh_few old inputs.right);
      edge = g.edge;
      sound = g.sound;
    }
carried (Over w) old mid out marks told own apart none g =
    swept_all (Over w) w old out own (apart w.of refl) (λ k h. h) (λ k h. h) refl none g
carried (Until u) old mid out marks told own apart none (g, kept) =
    record {
      more = g.more;
      worked = worked_two (Until u) u.window.of u.right old mid out.edge g.more (λ k h. h) (λ k h. h) g.worked;
      owed = omega (arith, g.owed, ap waiting none, fresh_few old u.window.of, fresh_few old u.right);
      edge = g.edge;
      sound = g.sound;
    }
carried (Since s) old mid out marks told own apart none g =
    record {
      more = g.more;
      worked = worked_two (Since s) s.window.of s.right old mid out.edge g.more (λ k h. h) (λ k h. h) g.worked;
      owed = omega (arith, g.owed, ap waiting none, fresh_few old s.window.of, fresh_few old s.right);
      edge = g.edge;
      sound = g.sound;
    }

-- and the last span among them
pub record HasPutAll (kind : Kind) (old new : Held) (out : Out) : Type 0 where
  -- what was put on the node's edge
  pub more : List Verdict
  -- the inputs were read on, and that was put
  pub worked : HasWorkedOn kind old new out.edge more
  -- at most two for each verdict that was held, and two
  pub few : length more ≤ 2 * held_in old (inputs_of kind) + 2

-- letting go of one input's edge, or of two
pub released_one : {old new : Held} (kind : Kind) (front : ℤ) (j : ℕ) (limit : ℤ) → ((left : Bool) (k : ℕ) → IsOperand kind left k
    → (j ≡ k) × (limit ≡ front +ℤ looks_by kind left)) → ((k : ℕ) → j ≡ k → IsInput kind k) → j < length old.edges
    → IsDroppedBy limit (edge_at old j) (edge_at new j) → new.edges ≡ with_edge old j (edge_at new j) → new.start ≡ old.start
    → old.spare ≤ new.spare → HasReleased kind front old new
released_one {old} {new} kind front j limit sides is within dropped edges start spare =
    record {
      count = ap length edges ∙ length-set old.edges j _;
      one = λ k left side.
          let one = sides left k side in
          subst (λ (q : ℕ). IsDroppedBy (front +ℤ looks_by kind left) (edge_at old q) (edge_at new q)) one.0
          (subst (λ z. IsDroppedBy z (edge_at old j) (edge_at new j)) one.1 dropped);
      others = λ k none. ap (λ es. get_or es k no_edge) edges ∙ get_or-set_other old.edges j k _ no_edge (λ same. none (is k (sym same)));
      start = start;
      spare = spare;
    }

-- what each of two inputs was let go of is what the node no longer looks at
pub released_two : {old new : Held} (kind : Kind) (front : ℤ) (left right : ℕ) (left_by right_by : ℤ)
    → ((k : ℕ) → IsOperand kind true k → (left ≡ k) × (left_by ≡ front +ℤ looks_by kind true))
    → ((k : ℕ) → IsOperand kind false k → (right ≡ k) × (right_by ≡ front +ℤ looks_by kind false))
    → ((k : ℕ) → (left ≡ k) ⊎ (right ≡ k) → IsInput kind k) → HasReleasedTwo old new left left_by right right_by → HasReleased kind front old new
released_two {old} {new} kind front left right left_by right_by on_left on_right is g =
    record {
      count = g.count;
      one = λ k side at. by_side k side at;
      others = λ k none. g.others k (λ same. none (is k (inl (sym same)))) (λ same. none (is k (inr (sym same))));
      start = g.start;
      spare = g.spare;
    }
  where
    by_side : (k : ℕ) (side : Bool) → IsOperand kind side k → IsDroppedBy (front +ℤ looks_by kind side) (edge_at old k) (edge_at new k)
    by_side k true at =
        let one = on_left k at in
        subst (λ (q : ℕ). IsDroppedBy (front +ℤ looks_by kind true) (edge_at old q) (edge_at new q)) one.0
        (subst (λ z. IsDroppedBy z (edge_at old left) (edge_at new left)) one.1 g.one)
    by_side k false at =
        let one = on_right k at in
        subst (λ (q : ℕ). IsDroppedBy (front +ℤ looks_by kind false) (edge_at old q) (edge_at new q)) one.0
        (subst (λ z. IsDroppedBy z (edge_at old right) (edge_at new right)) one.1 g.other)

-- a number moved by nothing is itself
pub front_itself : (f : ℤ) → f ≡ f +ℤ pos 0
front_itself f = omega (arith, ints)
