-- Runs as code is handed them. A script has seven numbers a call: its own, its argument, the time (day, hour and minute), and the lengths of its
-- FCB and of its buffer. The FCBs stand one after the other in one slice, the buffers in another. In place of a call's number 256 lifts the
-- protection and 257 sets it; the FCB and the buffer that stand with it are passed over.
use Rattle.std.specs.Prelude.{◌≡◌, refl, true, cond, List, [], ◌∷◌, ◌++◌, length, take, drop}
use Rattle.std.proofs.Math.Path.{ap}
use Rattle.std.proofs.Common.{sym, ◌∙◌, append_assoc, arith, take-append-drop, length-append, drop_of_length-le, take_all, drop-cons, drop_at, length-take-le}
use Rattle.std.proofs.Math.Bool.{false}
use Prim.Native.Nat.{ℕ, suc, ◌+◌, ◌-◌, ◌%◌, ◌≤◌, ◌<◌}
use Rattle.std.proofs.Math.Dec.{eqb}
use borrow.Author.Tests.{eq-eqb, ne_eqb}
use Rattle.std.proofs.Math.ListN.{get_or, length-drop}
use Rattle.std.proofs.Math.Seq.{take-append_seam, drop-append_seam, length_front}
use Rattle.format.specs.Diskette.{Bytes, eight_inch}
use Rattle.model.specs.declared.Asked.{Asked}
use Rattle.model.specs.declared.Session.{Session}
use Rattle.model.specs.Lent.{lend, Outcome, lift, protect}
use Rattle.model.specs.Step.{step}
use Rattle.demands.specs.Runs.{Request, Disk, disk_of, outcome_of, left, after, Act, one_call, lifts, protects, after_act, run}
use Rattle.script.specs.declared.Point.{Point}

abbrev pub request : Asked → Bytes → Bytes → Request
request asked fcb buffer = record { asked = asked; fcb = fcb; buffer = buffer }

-- a call's numbers are bytes, but for the day, which is two
abbrev pub asked_by : ℕ → ℕ → ℕ → ℕ → ℕ → Asked
asked_by n a d h m = record { number = n % 256; argument = a % 256; day = d % 65536; hour = h % 256; minute = m % 256 }

-- the numbers that stand for no call
abbrev pub lifting : ℕ
lifting = 256

abbrev pub protecting : ℕ
protecting = 257

abbrev pub act_by : ℕ → Request → Act
act_by n q = cond (eqb n lifting) lifts (cond (eqb n protecting) protects (one_call q))

-- the run that a script stands for. One that ends within an act ends before it; where FCBs or buffers run out, what is left is lent
unfoldable pub acts_of : List ℕ → Bytes → Bytes → List Act
acts_of (n ∷ a ∷ d ∷ h ∷ m ∷ f ∷ b ∷ script) fcbs buffers =
    act_by n (request (asked_by n a d h m) (take f fcbs) (take b buffers)) ∷ acts_of script (drop f fcbs) (drop b buffers)
acts_of [] fcbs buffers = []
acts_of (n ∷ []) fcbs buffers = []
acts_of (n ∷ a ∷ []) fcbs buffers = []
acts_of (n ∷ a ∷ d ∷ []) fcbs buffers = []
acts_of (n ∷ a ∷ d ∷ h ∷ []) fcbs buffers = []
acts_of (n ∷ a ∷ d ∷ h ∷ m ∷ []) fcbs buffers = []
acts_of (n ∷ a ∷ d ∷ h ∷ m ∷ f ∷ []) fcbs buffers = []

-- every run whose numbers are in range is that of a script
abbrev numbers_of : List Act → List ℕ
numbers_of [] = []
numbers_of (one_call q ∷ rest) =
    q.asked.number ∷ q.asked.argument ∷ q.asked.day ∷ q.asked.hour ∷ q.asked.minute ∷ length q.fcb ∷ length q.buffer ∷ numbers_of rest
numbers_of (lifts ∷ rest) = lifting ∷ 0 ∷ 0 ∷ 0 ∷ 0 ∷ 0 ∷ 0 ∷ numbers_of rest
numbers_of (protects ∷ rest) = protecting ∷ 0 ∷ 0 ∷ 0 ∷ 0 ∷ 0 ∷ 0 ∷ numbers_of rest

abbrev joined : (Request → Bytes) → List Act → Bytes
joined bytes [] = []
joined bytes (one_call q ∷ rest) = bytes q ++ joined bytes rest
joined bytes (lifts ∷ rest) = joined bytes rest
joined bytes (protects ∷ rest) = joined bytes rest

pub record InRange (asked : Asked) : Type 0 where
  pub number : asked.number < 256
  pub argument : asked.argument < 256
  pub day : asked.day < 65536
  pub hour : asked.hour < 256
  pub minute : asked.minute < 256

abbrev AllInRange : List Act → Type 0
AllInRange [] = Unit {0}
AllInRange (one_call q ∷ rest) = InRange q.asked × AllInRange rest
AllInRange (lifts ∷ rest) = AllInRange rest
AllInRange (protects ∷ rest) = AllInRange rest

asked_again : (asked : Asked) → InRange asked → asked_by asked.number asked.argument asked.day asked.hour asked.minute ≡ asked
asked_again asked r =
    let n : asked.number % 256 ≡ asked.number = omega (arith, r.number) in
    let a : asked.argument % 256 ≡ asked.argument = omega (arith, r.argument) in
    let d : asked.day % 65536 ≡ asked.day = omega (arith, r.day) in
    let h : asked.hour % 256 ≡ asked.hour = omega (arith, r.hour) in
    let m : asked.minute % 256 ≡ asked.minute = omega (arith, r.minute) in
    rw (n, a, d, h, m)

-- a call's number is neither of the two
call_act : (q : Request) → q.asked.number < 256 → act_by q.asked.number q ≡ one_call q
call_act q h =
    let a : eqb q.asked.number lifting ≡ false = ne_eqb q.asked.number 256 (λ z. omega arith) in
    let b : eqb q.asked.number protecting ≡ false = ne_eqb q.asked.number 257 (λ z. omega arith) in rw (a, b)

pub scripted : (acts : List Act) → AllInRange acts → acts_of (numbers_of acts) (joined (λ (q : Request). q.fcb) acts) (joined (λ (q : Request). q.buffer) acts) ≡ acts
unfolding acts_of
scripted [] all = refl
scripted (one_call q ∷ rest) all =
    rw (
      asked_again q.asked all.0,
      take-append_seam q.fcb (joined (λ (r : Request). r.fcb) rest),
      take-append_seam q.buffer (joined (λ (r : Request). r.buffer) rest),
      drop-append_seam q.fcb (joined (λ (r : Request). r.fcb) rest),
      drop-append_seam q.buffer (joined (λ (r : Request). r.buffer) rest),
      scripted rest all.1,
      call_act q all.0.number,
    )
scripted (lifts ∷ rest) all = rw (scripted rest all)
scripted (protects ∷ rest) all = rw (scripted rest all)

-- ---- the loop that makes them
-- the disk that is come to by the acts from `at` on, from a point of a run
unfoldable pub acts_left : List ℕ → ℕ → Bytes → Bytes → Bytes → Bytes → Point → Disk
acts_left script at fcbs buffers image map p =
    run eight_inch (disk_of image map p.session) (acts_of (drop at script) (drop p.fcbs fcbs) (drop p.buffers buffers))

-- `to` is where the next n bytes end, or all that is left
pub record Ends (bytes : Bytes) (from n to : ℕ) : Type 0 where
  pub low : from ≤ to
  pub high : to ≤ length bytes
  pub taken : take (to - from) (drop from bytes) ≡ take n (drop from bytes)
  pub left : drop (to - from) (drop from bytes) ≡ drop n (drop from bytes)

pub ends_within : (bytes : Bytes) (from n : ℕ) → from ≤ length bytes → n < length bytes - from → Ends bytes from n (from + n)
ends_within bytes from n h l =
    let q : (from + n) - from ≡ n = omega arith in
    record { low = omega arith; high = omega arith; taken = rw q; left = rw q }

pub ends_short : (bytes : Bytes) (from n : ℕ) → from ≤ length bytes → (n < length bytes - from → ⊥) → Ends bytes from n (length bytes)
ends_short bytes from n h l =
    let q : length (drop from bytes) ≡ length bytes - from = length-drop from bytes in
    record {
      low = h;
      high = omega arith;
      taken = take_all (length bytes - from) (drop from bytes) (omega arith) ∙ sym (take_all n (drop from bytes) (omega arith));
      left = drop_of_length-le (drop from bytes) {i = length bytes - from} (omega arith) ∙ sym (drop_of_length-le (drop from bytes) {i = n} (omega arith));
    }

part_long : (bytes : Bytes) (from n to : ℕ) → Ends bytes from n to → length (take (to - from) (drop from bytes)) ≡ to - from
part_long bytes from n to e =
    let q = length-drop from bytes in
    length-take-le (to - from) (drop from bytes) (omega (arith, e.high))

-- the bytes past a part stay, whatever that becomes
past_part : (bytes part : Bytes) (from n to : ℕ) → Ends bytes from n to → length part ≡ to - from
    → drop to (take from bytes ++ (part ++ drop (to - from) (drop from bytes))) ≡ drop n (drop from bytes)
past_part bytes part from n to e h =
    let low = e.low in
    let high = e.high in
    let front : length (take from bytes) ≡ from = length-take-le from bytes (omega arith) in
    ap (drop to) (sym (append_assoc (take from bytes) part (drop (to - from) (drop from bytes))))
    ∙ drop_at (take from bytes ++ part) (drop (to - from) (drop from bytes)) to (length-append (take from bytes) part ∙ omega arith) ∙ e.left

-- the numbers of a call, and what comes after
next : (xs : List ℕ) (k m : ℕ) → k < length xs → m ≡ suc k → drop k xs ≡ get_or xs k 0 ∷ drop m xs
next xs k m h q = rw q (drop-cons xs k 0 h)

seven : (xs : List ℕ) (at : ℕ) → at + 7 ≤ length xs
    → drop at xs
    ≡ get_or xs at 0 ∷ get_or xs (at + 1) 0 ∷ get_or xs (at + 2) 0 ∷ get_or xs (at + 3) 0 ∷ get_or xs (at + 4) 0 ∷ get_or xs (at + 5) 0 ∷ get_or xs (at + 6) 0
    ∷ drop (at + 7) xs
seven xs at h =
    rw (
      next xs at (at + 1) (omega arith) (omega arith),
      next xs (at + 1) (at + 2) (omega arith) (omega arith),
      next xs (at + 2) (at + 3) (omega arith) (omega arith),
      next xs (at + 3) (at + 4) (omega arith) (omega arith),
      next xs (at + 4) (at + 5) (omega arith) (omega arith),
      next xs (at + 5) (at + 6) (omega arith) (omega arith),
      next xs (at + 6) (at + 7) (omega arith) (omega arith),
    )

none_left : (xs : List ℕ) (fcbs buffers : Bytes) → length xs < 7 → acts_of xs fcbs buffers ≡ []
unfolding acts_of
none_left [] fcbs buffers l = refl
none_left (n ∷ []) fcbs buffers l = refl
none_left (n ∷ a ∷ []) fcbs buffers l = refl
none_left (n ∷ a ∷ d ∷ []) fcbs buffers l = refl
none_left (n ∷ a ∷ d ∷ h ∷ []) fcbs buffers l = refl
none_left (n ∷ a ∷ d ∷ h ∷ m ∷ []) fcbs buffers l = refl
none_left (n ∷ a ∷ d ∷ h ∷ m ∷ f ∷ []) fcbs buffers l = refl
none_left (n ∷ a ∷ d ∷ h ∷ m ∷ f ∷ b ∷ xs) fcbs buffers l = absurd (omega arith)

-- what the call at a place asks for
abbrev pub asked_at_rule : List ℕ → ℕ → Asked
asked_at_rule script at =
    asked_by (get_or script at 0) (get_or script (at + 1) 0) (get_or script (at + 2) 0) (get_or script (at + 3) 0) (get_or script (at + 4) 0)

-- ---- one act, by the number that stands for it
module _ (image map : Bytes) (s : Session) (n : ℕ) (asked : Asked) (fcb buffer : Bytes) where
  abbrev made : Disk
  made = after_act eight_inch (disk_of image map s) (act_by n (request asked fcb buffer))

  pub act_lifts : n ≡ lifting → (t : Session) → t ≡ lift s → disk_of image map t ≡ made
  act_lifts z t q = let w : eqb n lifting ≡ true = eq-eqb _ _ z in rw (w, q)

  pub act_protects : (n ≡ lifting → ⊥) → n ≡ protecting → (t : Session) → t ≡ protect s → disk_of image map t ≡ made
  act_protects y z t q =
      let v : eqb n lifting ≡ false = ne_eqb _ _ y in
      let w : eqb n protecting ≡ true = eq-eqb _ _ z in rw (v, w, q)

  pub act_calls : (n ≡ lifting → ⊥) → (n ≡ protecting → ⊥) → (o : Outcome) → o ≡ step eight_inch asked (lend image map fcb buffer) s → left o ≡ made
  unfolding after outcome_of
  act_calls y z o q =
      let v : eqb n lifting ≡ false = ne_eqb _ _ y in
      let w : eqb n protecting ≡ false = ne_eqb _ _ z in rw (v, w, q)

-- a slice whose part came back
abbrev pub mended : Bytes → ℕ → ℕ → Bytes → Bytes
mended bytes from to part = take from bytes ++ (part ++ drop (to - from) (drop from bytes))

-- it is as long as it was, where the part is
pub length_mended : (part bytes : Bytes) (from n to : ℕ) → Ends bytes from n to
    → length part ≡ length (take (to - from) (drop from bytes)) → length (mended bytes from to part) ≡ length bytes
length_mended part bytes from n to e h =
    length-append (take from bytes) (part ++ drop (to - from) (drop from bytes))
    ∙ ap (λ (k : ℕ). length (take from bytes) + k) (length_front (drop from bytes) part (to - from) h)
    ∙ sym (length-append (take from bytes) (drop from bytes)) ∙ ap length (take-append-drop from bytes)

module _ (script : List ℕ) (at : ℕ) (fcbs buffers image map : Bytes) (p : Point) where
  pub acts_none : length script - at < 7 → acts_left script at fcbs buffers image map p ≡ disk_of image map p.session
  unfolding acts_left run
  acts_none h =
      let q = length-drop at script in
      let none = none_left (drop at script) (drop p.fcbs fcbs) (drop p.buffers buffers) (omega arith) in
      ap (run eight_inch (disk_of image map p.session)) none

  -- one act is made, with the next parts of the two slices
  pub acts_next : at + 7 ≤ length script → (f b : ℕ) → Ends fcbs p.fcbs (get_or script (at + 5) 0) f → Ends buffers p.buffers (get_or script (at + 6) 0) b
      → (asked : Asked) → asked ≡ asked_at_rule script at → (img notes fcb buffer : Bytes) (s : Session)
      → disk_of img notes s ≡ after_act eight_inch (disk_of image map p.session)
      (act_by (get_or script at 0) (request asked (take (f - p.fcbs) (drop p.fcbs fcbs)) (take (b - p.buffers) (drop p.buffers buffers))))
      → length fcb ≡ length (take (f - p.fcbs) (drop p.fcbs fcbs))
      → length buffer ≡ length (take (b - p.buffers) (drop p.buffers buffers))
      → acts_left script (at + 7) (mended fcbs p.fcbs f fcb) (mended buffers p.buffers b buffer) img notes
      record { fcbs = f; buffers = b; session = s }
      ≡ acts_left script at fcbs buffers image map p
  unfolding acts_left run acts_of
  acts_next h f b ef eb asked q img notes fcb buffer s meets lf lb =
      let x : ℕ = get_or script (at + 5) 0 in
      let y : ℕ = get_or script (at + 6) 0 in
      rw (
        past_part fcbs fcb p.fcbs x f ef (lf ∙ part_long fcbs p.fcbs x f ef),
        past_part buffers buffer p.buffers y b eb (lb ∙ part_long buffers p.buffers y b eb),
        seven script at h,
        meets,
        q,
        ef.taken,
        eb.taken,
      )
