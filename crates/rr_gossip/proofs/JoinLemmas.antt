-- Cells of a page, joined one after the other.
use Rattle.std.proofs.Common.{◌≡◌, ℕ, List, OnErr, Result, Ok, Err, Bool, false, take, drop, inl, inr, refl, sym, ap, subst}
use Rattle.std.proofs.lemmas.List.{take-append-drop}
use Rattle.rr_text.specs.Results.{◌>>=◌}
use Rattle.rr_page.specs.PageReading.{page_at}
use Rattle.rr_gossip.specs.declared.fault.GossipFault.{GossipFault}
use Rattle.rr_gossip.specs.declared.fault.GossipFault.TheVariants.{Memory}
use Rattle.rr_gossip.specs.declared.puller.Stage.TheVariants.{Waiting}
use Rattle.rr_gossip.specs.Fault.{as_body}
use Rattle.rr_gossip.specs.Puller.{ArePrefix, Takes, page_taken}
use Rattle.rr_schema.specs.Schema.{Layout}
use Rattle.rr_cells.specs.CellBounds.{NamedCell}

pub on_err : {A E : Type 0} (r : Result A E) (P : Type 0) → P → OnErr r P
on_err (Ok x) P p = tt
on_err (Err e) P p = p

-- the first of the cells of a page that was read
pub page_prefix : (s : Layout) (body : List ℕ) (es : List NamedCell) (n : ℕ) → page_at s body ≡ Ok es
    → ArePrefix (take n es) (page_taken s body)
unfolding page_taken
page_prefix s body es n read = record {
  found = ((Waiting, es), false);
  is_read = ap (λ r. as_body r >>= λ (fs : List NamedCell). Ok ((Waiting, fs), false)) read;
  others = drop n es;
  parts = sym (take-append-drop n es);
}

pub memory_taken : {X : Type 0} (joined : List NamedCell → Type 0) (x : X) (r : Result Bool GossipFault)
    (read : Result ((X × List NamedCell) × Bool) GossipFault) (es : List NamedCell) → r ≡ Err Memory → ArePrefix es read
    → joined es → Takes joined x r read
memory_taken joined x r read es is prefix holds =
    subst (λ q. Takes joined x q read) (sym is) (inl (refl, inr (es, prefix, holds)))
