-- A run that came to an end of its own ended as its request does over all bytes of the input.
use Rattle.std.proofs.Common.{◌≡◌, ◌≢◌, ◌⊎◌, inl, inr, ℕ, Bool, true, false, List, [], refl, sym, ◌∙◌, subst, Some, eq-eqb}
use Rattle.std.specs.Prelude.{◌==◌}
use Rattle.std.proofs.lemmas.Bool.{false≢true, eqb-true}
use Rattle.std.specs.Io.KnownBytes.{Consumes, IsAtEnd}
use Rattle.io_edge.specs.Calls.{Drained, Filled}
use Rattle.workbench.specs.Requests.{Request, Asks, has_input}
use Rattle.workbench.specs.Ended.{EndsWith}
use Rattle.workbench.specs.Running.{IsEnd, by_itself, unread, unwritten, no_memory, IsReadOut, HasEnded, asked, unknown}
use Rattle.promises.proofs.CompleteRuns.{rest_of}
use Rattle.run_laws.specs.OneAnswer.{IsOwn}
use Rattle.run_laws.proofs.Endings.{IsEnding, ending_of_all}

own_end : {request : Request} {i : Drained} {o : Filled} {bytes text line : List ℕ} {status : ℕ} → IsOwn status → IsEnd request i o bytes text status line
    → EndsWith bytes i.ended request status line text
own_end own (by_itself h) = h
own_end own (unread has unended failed calm owed) = absurd (own.0 refl)
own_end own (unwritten rest some failed begun) = absurd (own.1 refl)
own_end own (no_memory known begun) = absurd (own.2 refl)

-- what the words asked for came to an end of its own
pub record HasOwnEnd (words : List (List ℕ)) (i : Drained) (bytes text : List ℕ) (status : ℕ) (line : List ℕ) : Type 0 where
  -- the request
  pub request : Request
  -- that they ask for
  pub asks : Asks words request
  -- nothing is left where the source said its end
  pub out : has_input request ≡ true → IsReadOut i
  -- how it ended
  pub is : EndsWith bytes i.ended request status line text

-- so it is of a run with such a status
pub has_own_end : {words : List (List ℕ)} {i : Drained} {o : Filled} {bytes text : List ℕ} {status : ℕ} {line : List ℕ} → IsOwn status
    → HasEnded words i o bytes text status line → HasOwnEnd words i bytes text status line
has_own_end own (asked request ask nothing out pace end) =
    record { request = request; asks = ask; out = λ has. out own.2 has; is = own_end own end }
has_own_end own (unknown some none) = absurd (own.2 refl)

-- by the bytes that the source held it is an ending of all of them
pub own_ending : {words : List (List ℕ)} {i : Drained} {read text : List ℕ} {status : ℕ} {line : List ℕ} (bytes : List ℕ)
    (r : HasOwnEnd words i read text status line)
    → has_input r.request ≡ true → i.before ≡ Some bytes → Consumes i.before i.after read → IsEnding r.request bytes status line text
own_ending {i = i} {read = read} {text = text} {status = status} {line = line} bytes r has held moved =
    let (left, after, parts) = rest_of i.before i.after bytes read held moved in
    subst (λ b. IsEnding r.request b status line text) (sym parts)
    (ending_of_all read left i.ended (λ e. subst IsAtEnd after ((r.out has).none_left e)) r.request status line text has r.is)

-- ---- a run that ended in any way

-- what the words asked for ended, or memory was wanting before that was known
pub data HowEnded (words : List (List ℕ)) (i : Drained) (o : Filled) (bytes text : List ℕ) (status : ℕ) (line : List ℕ) : Type 0 where
  known : (request : Request) → Asks words request → (status ≢ 7 → has_input request ≡ true → IsReadOut i) → IsEnd request i o bytes text status line
      → HowEnded words i o bytes text status line
  starved : text ≡ [] → status ≡ 7 → HowEnded words i o bytes text status line

-- each run ended so
pub how_ended : {words : List (List ℕ)} {i : Drained} {o : Filled} {bytes text : List ℕ} {status : ℕ} {line : List ℕ}
    → HasEnded words i o bytes text status line → HowEnded words i o bytes text status line
how_ended (asked request ask nothing out pace end) = known request ask out end
how_ended (unknown some none) = starved refl refl

-- a status is that of want of memory or not
pub seven : (n : ℕ) → (n ≡ 7) ⊎ (n ≢ 7)
seven n = by_test (n == 7) refl
  where
    by_test : (b : Bool) → (n == 7) ≡ b → (n ≡ 7) ⊎ (n ≢ 7)
    by_test true e = inl (eqb-true n 7 e)
    by_test false e = inr (λ same. false≢true (sym e ∙ eq-eqb n 7 same))

-- nothing is left where the source said its end, where that is known of want of memory too
pub none_left_at_end : {i : Drained} {status : ℕ} → (status ≡ 7 → i.ended ≡ true → IsAtEnd i.after) → (status ≢ 7 → IsReadOut i)
    → i.ended ≡ true → IsAtEnd i.after
none_left_at_end {status = status} truly out said = elim (seven status) [ inl e ↦ truly e said | inr n ↦ (out n).none_left said ]
