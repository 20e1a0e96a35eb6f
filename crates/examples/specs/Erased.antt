-- Example e: an erased disk. After a log-in all blocks past the directory are free.
use Rattle.std.specs.Prelude.{◌≡◌, true, false, [], ◌∷◌, ℕ, ◌-◌, ◌*◌, ◌≤◌, ◌<◌, length, get_or, replicate}
use Rattle.std.proofs.Math.Path.{refl}
use Rattle.std.proofs.Common.{sym, subst, arith}
use Rattle.std.proofs.lemmas.List.{length-replicate}
use borrow.Author.Tests.{lt-ltb, le-ltb}
use Rattle.lists.specs.Cases.{split, lt_or_le, clash}
use Rattle.lists.specs.Tests.{◌and◌}
use Rattle.lists.specs.Splice.{part, splice, part_splice_same}
use Rattle.lists.specs.Count.{count_from}
use Rattle.table.specs.Own.{calling, ask}
use Rattle.format.specs.Diskette.{Bytes, Geometry, Sound, record_bytes, eight_inch, Long}
use Rattle.format.specs.Entries.{Rows, entry_at}
use Rattle.format.specs.Dates.{bcd}
use Rattle.format.specs.Consistent.{consistent}
use Rattle.format.specs.Notes.{is_listed, fresh_note_rule, fresh_map, is_free, free_count_rule}
use Rattle.format.specs.Fcb.{fcb_bytes}
use Rattle.disk.specs.Eight.{eight_sound}
use Rattle.notes.specs.Right.{length_fresh, fresh_at, fresh_right}
use Rattle.fields.specs.Erased.{ErasedDisk, erased_consistent, erased_unlisted}
use Rattle.model.specs.declared.Asked.{Asked}
use Rattle.model.specs.declared.Session.{Session}
use Rattle.model.specs.Table.{time_right_rule}
use Rattle.model.specs.Lent.{lend, Outcome, ended, lift}
use Rattle.model.specs.Entering.{three_bytes}
use Rattle.model.specs.Kinds.{uses_fcb_rule, is_call, kind_of}
use Rattle.model.specs.Calls.{done, logged_in, space}
use Rattle.model.specs.Step.{step, effect, stamped, settled, told}
use Rattle.table.specs.Protection.{other_spared}
use Rattle.table.specs.Facts.{Fits, Ready}
use Rattle.table.specs.Reflect.{login_ready}
use Rattle.table.proofs.Total.{step_carried}

-- ---- the free blocks of a fresh map
module _ (G : Geometry) (d : Rows) (b : ℕ) (below : b < G.blocks) where
  fresh_area : b < G.area → is_free (fresh_map G d) b ≡ false
  unfolding is_free fresh_note_rule
  fresh_area h = rw (fresh_at G d b below, lt-ltb b G.area h)

  fresh_taken : G.area ≤ b → is_listed G d b ≡ true → is_free (fresh_map G d) b ≡ false
  unfolding is_free fresh_note_rule
  fresh_taken h t = rw (fresh_at G d b below, le-ltb b G.area h, t)

  fresh_free : G.area ≤ b → is_listed G d b ≡ false → is_free (fresh_map G d) b ≡ true
  unfolding is_free fresh_note_rule
  fresh_free h f = rw (fresh_at G d b below, le-ltb b G.area h, f)

-- where just the blocks below a are listed
pub fresh_count : (G : Geometry) (d : Rows) (a : ℕ) → G.area ≤ a → a ≤ G.blocks
    → ((b : ℕ) → G.area ≤ b → b < a → is_listed G d b ≡ true) → ((b : ℕ) → a ≤ b → is_listed G d b ≡ false)
    → free_count_rule G (fresh_map G d) ≡ G.blocks - a
unfolding free_count_rule
fresh_count G d a low high taken free =
    count_from (is_free (fresh_map G d)) a G.blocks high
    (λ b h. split (lt_or_le b G.area) (λ w. fresh_area G d b (omega arith) w) (λ w. fresh_taken G d b (omega arith) w (taken b w h)))
    (λ b h l. fresh_free G d b l (omega arith) (free b h))

pub erased_count : {G : Geometry} (S : Sound G) (img : Bytes) → ErasedDisk G img → free_count_rule G (fresh_map G (entry_at G img)) ≡ G.blocks - G.area
erased_count {G} S img erased =
    let some = S.area_some in
    let room = S.area_below in
    fresh_count G (entry_at G img) G.area (omega arith) (omega arith) (λ b h l. absurd (omega arith))
    (λ b h. erased_unlisted G img erased b (λ z. omega arith))

-- ---- a log-in, and the space after it
-- what is lent with an image, and a session, that every call takes
pub record Fitting (G : Geometry) (map fcb buffer : Bytes) (s : Session) : Type 0 where
  pub map_long : length map ≡ G.blocks
  pub fcb_long : length fcb ≡ fcb_bytes
  pub buffer_long : length buffer ≡ record_bytes
  pub user_low : s.user ≤ 15
  pub place_low : s.place ≤ G.entries

-- a call with nothing said: its time, all zero, is one
pub ask_right : (n : ℕ) → time_right_rule (ask n) ≡ true
unfolding time_right_rule bcd ◌and◌
ask_right n = refl

-- user 0 with no search, protected: a session of zeros. Any map, a blank buffer
abbrev pub start : Session
start = record { user = 0; pattern = replicate 12 0; place = 0; on = 0; lifted = 0 }

abbrev pub blank : Bytes
blank = replicate 128 0

abbrev pub notes : Bytes
notes = replicate 243 0

pub fitting : (fcb : Bytes) → length fcb ≡ fcb_bytes → Fitting eight_inch notes fcb blank start
fitting fcb long = record {
  map_long = length-replicate {A = ℕ} 243 0;
  fcb_long = long;
  buffer_long = length-replicate {A = ℕ} 128 0;
  user_low = omega arith;
  place_low = omega arith;
}

-- lifting the protection leaves the rest
pub fitting_lifted : {G : Geometry} {map fcb buffer : Bytes} {s : Session} → Fitting G map fcb buffer s → Fitting G map fcb buffer (lift s)
fitting_lifted f = record { map_long = f.map_long; fcb_long = f.fcb_long; buffer_long = f.buffer_long; user_low = f.user_low; place_low = f.place_low }

module _ (G : Geometry) (img : Bytes) (long : Long G img) (right : consistent G img ≡ true)
    (map fcb buffer : Bytes) (s : Session) (fit : Fitting G map fcb buffer s) where
  fits : Fits G (lend img map fcb buffer) s
  fits = record {
    image_long = long;
    map_long = fit.map_long;
    fcb_long = fit.fcb_long;
    buffer_long = fit.buffer_long;
    user_low = fit.user_low;
    place_low = fit.place_low;
  }

  -- an image that is consistent can be logged in, whatever the map
  pub login_step : (asked : Asked) → time_right_rule asked ≡ true → step G (calling 13 asked) (lend img map fcb buffer) s ≡ done 0 s (lend img (fresh_map G (entry_at G img)) fcb buffer)
  unfolding logged_in effect stamped settled is_call kind_of
  login_step asked time = step_carried G (calling 13 asked) (lend img map fcb buffer) s refl (login_ready G asked (lend img map fcb buffer) s fits time right)
      (other_spared G (calling 13 asked) (lend img map fcb buffer) s refl) tt

  -- after it every call finds image and map right
  pub logged_ready : (asked : Asked) → time_right_rule asked ≡ true → (uses_fcb_rule asked.number ≡ true → get_or fcb 0 0 ≤ 1)
      → Ready G asked (lend img (fresh_map G (entry_at G img)) fcb buffer) (ended s)
  logged_ready asked time drive = record {
    fits = record {
      image_long = long;
      map_long = length_fresh G (entry_at G img);
      fcb_long = fit.fcb_long;
      buffer_long = fit.buffer_long;
      user_low = fit.user_low;
      place_low = omega arith;
    };
    time = time;
    drive = drive;
    image_right = right;
    map_right_law = λ ne. fresh_right G (entry_at G img);
  }

  -- and 46 then answers eight times the free notes of the fresh map
  pub space_step : (asked : Asked) → time_right_rule asked ≡ true → step G (calling 46 asked) (lend img (fresh_map G (entry_at G img)) fcb buffer) (ended s)
      ≡ done 0 s (lend img (fresh_map G (entry_at G img)) fcb (splice buffer 0 (three_bytes (G.per_block * free_count_rule G (fresh_map G (entry_at G img))))))
  unfolding space uses_fcb_rule effect stamped told is_call kind_of time_right_rule
  space_step asked time =
      step_carried G (calling 46 asked) (lend img (fresh_map G (entry_at G img)) fcb buffer) (ended s) refl (logged_ready (calling 46 asked) time (λ u. clash (sym u)))
      (other_spared G (calling 46 asked) (lend img (fresh_map G (entry_at G img)) fcb buffer) (ended s) refl) tt

-- a call after another: on what that left, with the session that it left
abbrev pub next : Geometry → Asked → Outcome → Outcome
next G asked o = step G asked o.lent o.answer.session

-- 13 is accepted and makes the map the fresh one, and 46, straight after it, answers 0 with these three bytes
pub record SpaceIs (G : Geometry) (img : Bytes) (bytes : Bytes) (map fcb buffer : Bytes) (s : Session) (x y : Asked) : Type 0 where
  pub login_a : (step G (calling 13 x) (lend img map fcb buffer) s).answer.a ≡ 0
  pub login_h : (step G (calling 13 x) (lend img map fcb buffer) s).answer.h ≡ 0
  pub login_map : (step G (calling 13 x) (lend img map fcb buffer) s).lent.drive.map ≡ fresh_map G (entry_at G img)
  pub space_a : (next G (calling 46 y) (step G (calling 13 x) (lend img map fcb buffer) s)).answer.a ≡ 0
  pub space_h : (next G (calling 46 y) (step G (calling 13 x) (lend img map fcb buffer) s)).answer.h ≡ 0
  pub space_bytes : part (next G (calling 46 y) (step G (calling 13 x) (lend img map fcb buffer) s)).lent.buffer 0 3 ≡ bytes

pub space_is : (G : Geometry) (img : Bytes) → Long G img → consistent G img ≡ true
    → (map fcb buffer : Bytes) (s : Session) → Fitting G map fcb buffer s → (x y : Asked) → time_right_rule x ≡ true → time_right_rule y ≡ true
    → SpaceIs G img (three_bytes (G.per_block * free_count_rule G (fresh_map G (entry_at G img)))) map fcb buffer s x y
space_is G img long right map fcb buffer s fit x y tx ty =
    let one = login_step G img long right map fcb buffer s fit x tx in
    let two = space_step G img long right map fcb buffer s fit y ty in
    let room = fit.buffer_long in
    record {
      login_a = rw one;
      login_h = rw one;
      login_map = rw one;
      space_a = rw (one, two);
      space_h = rw (one, two);
      space_bytes = rw (one, two) (part_splice_same buffer 0 (three_bytes (G.per_block * free_count_rule G (fresh_map G (entry_at G img)))) (omega arith));
    }

-- on an erased disk: 88H 07H 00H
pub erased_space : (img : Bytes) → ErasedDisk eight_inch img
    → (map fcb buffer : Bytes) (s : Session) → Fitting eight_inch map fcb buffer s → (x y : Asked) → time_right_rule x ≡ true → time_right_rule y ≡ true
    → SpaceIs eight_inch img (136 ∷ 7 ∷ 0 ∷ []) map fcb buffer s x y
erased_space img erased map fcb buffer s fit x y tx ty =
    let n : free_count_rule eight_inch (fresh_map eight_inch (entry_at eight_inch img)) ≡ 241 = erased_count eight_sound img erased in
    subst (λ (k : ℕ). SpaceIs eight_inch img (three_bytes (8 * k)) map fcb buffer s x y) n
    (space_is eight_inch img erased.long (erased_consistent eight_inch img erased eight_sound) map fcb buffer s fit x y tx ty)
