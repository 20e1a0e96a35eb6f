-- What hosts are handed of a run of the picker.
use Rattle.std.specs.Prelude.{◌≡◌, cond}
use Rattle.std.proofs.Common.{ap, ◌∙◌}
use Rattle.format.specs.Diskette.{Bytes}
use Rattle.demands.specs.Runs.{disk_of}
use Rattle.picking.specs.declared.Told.{Told}
use Rattle.picking.specs.Numbers.{says_of}
use Rattle.picking.specs.Picker as picker
use Rattle.benzokamuri.specs.declared.Picked.{Picked}

-- r, and the bytes lent, are what the run p came to: the numbers of how it ended; 1 where the word was handed out, else 0; the word, and the disk
pub record Handed (r : Picked) (bytes image map : Bytes) (p : picker.Picked) : Type 0 where
  pub number : r.number ≡ (says_of p.pick).number
  pub is_a : r.a ≡ (says_of p.pick).a
  pub is_h : r.h ≡ (says_of p.pick).h
  pub given : r.given ≡ cond p.given 1 0
  pub word : bytes ≡ p.word
  pub disk : disk_of image map r.session ≡ p.disk

-- from what the picker's code tells, on the disk with the image i and the map m
pub handed : (t : Told) (r : Picked) (bytes i m image map : Bytes) (p : picker.Picked) → picker.picks t bytes (disk_of i m r.session) ≡ p
    → r.number ≡ (says_of t.pick).number → r.a ≡ (says_of t.pick).a → r.h ≡ (says_of t.pick).h → r.given ≡ cond t.given 1 0 → image ≡ i → map ≡ m
    → Handed r bytes image map p
handed t r bytes i m image map p e n a h g x y =
    record {
      number = n ∙ ap (λ (q : picker.Picked). (says_of q.pick).number) e;
      is_a = a ∙ ap (λ (q : picker.Picked). (says_of q.pick).a) e;
      is_h = h ∙ ap (λ (q : picker.Picked). (says_of q.pick).h) e;
      given = g ∙ ap (λ (q : picker.Picked). cond q.given 1 0) e;
      word = ap (λ (q : picker.Picked). q.word) e;
      disk = rw (x, y) (ap (λ (q : picker.Picked). q.disk) e);
    }
