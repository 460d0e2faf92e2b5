-- A stream keeps pace with its source, in every run that read some bytes.
use Rattle.std.proofs.Common.{◌≡◌, ◌≢◌, ℕ, true, List, [], sym, subst}
use Rattle.io_edge.specs.Calls.{Drained, Filled}
use Rattle.workbench.specs.Requests.{Request, Asks, is_streamed}
use Rattle.workbench.specs.Running.{KeepsPace, HasEnded, asked, unknown}
use Rattle.promises.proofs.OneRequest.{one_request}

-- it asks for the one request of its words
pub kept_pace : (words : List (List ℕ)) (request : Request) → Asks words request → is_streamed request ≡ true → (i : Drained) (o : Filled)
    {bytes text line : List ℕ} {status : ℕ} → bytes ≢ [] → HasEnded words i o bytes text status line → KeepsPace request i bytes text
kept_pace words request ask streamed i o {bytes} {text} some (asked other also nothing at pace end) =
    let same = one_request words other request also ask in
    subst (λ (r : Request). KeepsPace r i bytes text) same (pace (subst (λ (r : Request). is_streamed r ≡ true) (sym same) streamed))
kept_pace words request ask streamed i o some (unknown known nothing) = absurd (some nothing)
