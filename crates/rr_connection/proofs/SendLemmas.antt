-- What goes out over several steps.
use Rattle.std.proofs.Common.{◌≡◌, ℕ, ◌+◌, List, [], ◌++◌, replicate, refl, sym, ap, ◌∙◌, append_assoc, append-nil}
use Rattle.std.specs.List.{flat_map}
use Rattle.std.proofs.lemmas.Grind.{flat_map-append}
use Rattle.std.proofs.lemmas.List.{replicate-append-replicate}
use Rattle.rr_connection.specs.declared.http.HttpConnection.{HttpConnection}
use Rattle.rr_connection.specs.Receiving.{Sends, invitation}

abbrev invitations : ℕ → List ℕ
invitations count = flat_map (λ (continue : List ℕ). continue) (replicate count invitation)

-- what goes out first stands in front
pub sends_then : (text : List ℕ) (first second third : HttpConnection) → Sends [] first second → Sends text second third → Sends text first third
sends_then text first second third x y =
    let both : invitations x.0 ++ invitations y.0 ≡ invitations (x.0 + y.0) =
    sym (flat_map-append (λ (continue : List ℕ). continue) (replicate x.0 invitation) (replicate y.0 invitation))
    ∙ ap (flat_map (λ (continue : List ℕ). continue)) (replicate-append-replicate x.0 y.0 invitation) in (
      x.0 + y.0,
      y.1
          ∙ ap (λ q. q ++ (invitations y.0 ++ text)) (x.1 ∙ ap (λ q. first.unsent.items ++ q) (append-nil (invitations x.0)))
          ∙ append_assoc first.unsent.items (invitations x.0) (invitations y.0 ++ text)
          ∙ ap (λ q. first.unsent.items ++ q) (sym (append_assoc (invitations x.0) (invitations y.0) text) ∙ ap (λ q. q ++ text) both),
    )

-- a client is let send its body
pub sends_invitation : (first second : HttpConnection) → second.unsent.items ≡ first.unsent.items ++ invitation → Sends [] first second
sends_invitation first second is =
    let once : invitation ≡ invitations 1 ++ [] = refl in
    (1, is ∙ ap (λ q. first.unsent.items ++ q) once)
