-- The books of an edge are right.
use Rattle.std.proofs.Common.{◌≡◌, refl, subst, ℕ, ◌+◌, List, [], ◌++◌, length, length-append, arith}
use Rattle.stl_syntax.specs.Trace.{Header}
use Rattle.stl_syntax.specs.declared.items.Verdict.{Verdict}
use Rattle.stl_syntax.specs.declared.node.Node.{Node}
use Rattle.online_nodes.specs.Network.{Event, State, initial, state, Emitted, EmittedAt}
use Rattle.online_nodes.proofs.FrameLaw.{one_more, given_more}
use Rattle.online_nodes.specs.Network.{state_from}
use Rattle.bounds.specs.Books.{Books, opened, entered, BooksAreRight}
use Rattle.bounds.proofs.GivenFew.{given_are_few}

-- what was put was given out
record IsGiven (nodes : List Node) (header : Header) (i : ℕ) (events : List Event) (put : ℕ) : Type 0 where
  all : List Verdict
  given : Emitted nodes header events i all
  count : put ≡ length all

module _ (nodes : List Node) (header : Header) (i : ℕ) where
  given_of : {events : List Event} {put gone : ℕ} {held : List Verdict} → Books nodes header i events put gone held → IsGiven nodes header i events put
  unfolding state
  given_of opened = record { all = []; given = refl; count = refl }
  given_of (entered {events = events} {put = put} e here after n books now edge same) =
      let g = given_of books in record {
        all = g.all ++ here;
        given = given_more nodes header i initial events e g.all here g.given
            (subst (λ (x : State). EmittedAt nodes header i (state_from nodes initial events) x here) (one_more nodes header initial events e) now);
        count = let a = g.count in let b = length-append g.all here in omega (arith, a, b);
      }

  -- nothing is lost, and nothing twice
  balance : {events : List Event} {put gone : ℕ} {held : List Verdict} → Books nodes header i events put gone held → put ≡ gone + length held
  balance opened = refl
  balance (entered {put = put} {gone = gone} {held = held} e here after n books now edge same) = let b = balance books in omega (arith, b, same)

pub books_are_right : BooksAreRight
books_are_right nodes header order events run i l put gone held books = (
  balance nodes header i books,
  (let g = given_of nodes header i books in
      let few = given_are_few nodes header order events run i l g.all g.given in
      let c = g.count in
      omega (arith, few, c)),
)
