-- Words of no form, and the status 2.
use Rattle.std.proofs.Common.{◌≡◌, ℕ, List, arith, refl}
use Rattle.std.proofs.lemmas.Bool.{false≢true}
use Rattle.rational.proofs.Lists.{append_some}
use Rattle.io_edge.specs.Calls.{Drained, Filled}
use Rattle.workbench.specs.Requests.{Request, no_form, refused, whole, stream, sessions, generated, Asks, AreNone}
use Rattle.workbench.specs.Requests as request
use Rattle.command_line.specs.Commands.{on_formula, generate}
use Rattle.command_line.specs.Commands as word
use Rattle.workbench.specs.Ended.{EndsWith, none, bad, faulty, answered, wide, overfull}
use Rattle.workbench.specs.Running.{IsEnd, by_itself, unread, unwritten, no_memory, HasEnded, asked, unknown}
use Rattle.promises.proofs.Due.{small_answer}

by_ends_with : {words : List (List ℕ)} {bytes : List ℕ} (i : Drained) (r : Request) {status : ℕ} {line text : List ℕ} → Asks words r
    → EndsWith bytes i.ended r status line text
    → status ≡ 2 → AreNone words
by_ends_with i r a none s = a
by_ends_with i r a bad s = absurd (omega (arith, s))
by_ends_with i r a (faulty fault prompt owed) s = absurd (omega (arith, s))
by_ends_with {bytes = bytes} i r {status} {line} {text} a (answered is) s = absurd (omega (arith, s, small_answer r bytes text i.ended status is))
by_ends_with i r a (wide n den is) s = absurd (omega (arith, s))
by_ends_with i r a (overfull n is) s = absurd (omega (arith, s))

by_end : {words : List (List ℕ)} {bytes : List ℕ} (i : Drained) (o : Filled) (r : Request) {status : ℕ} {line text : List ℕ}
    → Asks words r → IsEnd r i o bytes text status line
    → status ≡ 2 → AreNone words
by_end i o r a (by_itself is) s = by_ends_with i r a is s
by_end i o r a (unread has ended failed sound owed) s = absurd (omega (arith, s))
by_end i o r a (unwritten rest some failed begun) s = absurd (omega (arith, s))
by_end i o r a (no_memory known begun) s = absurd (omega (arith, s))

-- 2 comes only where the words are of no form
pub two_is_none : {words : List (List ℕ)} {bytes : List ℕ} (i : Drained) (o : Filled) {text : List ℕ} {status : ℕ} {line : List ℕ}
    → HasEnded words i o bytes text status line
    → status ≡ 2 → AreNone words
two_is_none i o (asked r a nothing at pace end) s = by_end i o r a end s
two_is_none i o (unknown some nothing) s = absurd (omega (arith, s))

none_end : {bytes : List ℕ} (i : Drained) (o : Filled) {status : ℕ} {line : List ℕ} (text : List ℕ) → IsEnd no_form i o bytes text status line → status ≡ 2
none_end i o text (by_itself none) = refl
none_end i o text (by_itself (faulty fault prompt owed)) = absurd fault
none_end i o text (by_itself (answered is)) = absurd is
none_end i o text (by_itself (wide n den is)) = absurd is
none_end i o text (by_itself (overfull n is)) = absurd is
none_end i o text (unread has ended failed sound owed) = absurd (false≢true has)
none_end i o text (unwritten rest some failed begun) = absurd (append_some text rest some begun.owed)
none_end i o text (no_memory known begun) = absurd (known refl)

-- and there it comes
pub none_is_two : {words : List (List ℕ)} {bytes : List ℕ} (i : Drained) (o : Filled) {text : List ℕ} {status : ℕ} {line : List ℕ}
    → AreNone words → HasEnded words i o bytes text status line
    → status ≡ 2
none_is_two i o {text} h (asked no_form a nothing at pace end) = none_end i o text end
none_is_two i o h (asked (refused line) a nothing at pace end) = absurd (h (on_formula a.command a.text) a.form)
none_is_two i o h (asked (whole c f) a nothing at pace end) = absurd (h (on_formula (request.word_of c) a.text) a.form)
none_is_two i o h (asked (stream s f) a nothing at pace end) = absurd (h (on_formula (request.word_of_stream s) a.text) a.form)
none_is_two i o h (asked (sessions f) a nothing at pace end) = absurd (h (on_formula word.mux a.text) a.form)
none_is_two i o h (asked (generated n rows) a nothing at pace end) = absurd (h (generate n rows) a)
none_is_two i o h (unknown some nothing) = absurd (some h)
