-- Rows of which, but for date entries, only named ones have changed: those that were named, and those that were empty and are named now.
use Rattle.std.specs.Prelude.{◌≡◌, ◌⊎◌, true, false, ℕ, ◌≤◌, ◌<◌}
use Rattle.std.proofs.Common.{ap, sym, ◌∙◌, subst, inl, inr}
use Rattle.lists.specs.Cases.{split, eq_or_ne, not_both}
use Rattle.format.specs.Diskette.{Bytes, Geometry}
use Rattle.format.specs.Entries.{Rows, entry_at, used, empty}
use Rattle.format.specs.Dates.{is_dates}
use Rattle.facts.specs.Naming.{named_user, named_like}
use Rattle.facts.specs.Names.{like_at}
use Rattle.consistency.specs.Naming.{named_used}
use Rattle.consistency.specs.Reflect.{used_full, used_no_dates}
use Rattle.model.specs.Kinds.{same}
use Rattle.fields.specs.Agree.{SameName, named_cong, named_asked}
use Rattle.effects.specs.View.{Names}
use Rattle.effects.specs.Closed.{by_name}
use Rattle.effects.specs.Alike.{Alike, dates_alike}

-- ---- only entries that N names change, and empty ones that it names then
-- a row that was named or empty, and is named now
pub record Turned (N : Names) (r t : Bytes) : Type 0 where
  pub was : (N r ≡ true) ⊎ (empty r ≡ true)
  pub is : N t ≡ true

pub record OnlyNamed (G : Geometry) (N : Names) (s t : Rows) : Type 0 where
  pub rows : (e : ℕ) → e < G.entries → is_dates (s e) ≡ false → (t e ≡ s e) ⊎ Turned N (s e) (t e)
  pub dates : (e : ℕ) → e < G.entries → is_dates (t e) ≡ is_dates (s e)

-- one entry
pub only_one : {G : Geometry} {N : Names} {s t : Rows} (e : ℕ) → Turned N (s e) (t e)
    → ((i : ℕ) → i < G.entries → is_dates (s i) ≡ false → (i ≡ e → ⊥) → t i ≡ s i)
    → ((i : ℕ) → i < G.entries → is_dates (t i) ≡ is_dates (s i)) → OnlyNamed G N s t
only_one {G} {N} {s} {t} e h others dates = record {
  rows = λ i l n. split (eq_or_ne i e) (λ q. inr (subst (λ (x : ℕ). Turned N (s x) (t x)) (sym q) h)) (λ q. inl (others i l n q));
  dates = dates;
}

pub only_then : {G : Geometry} {N : Names} {s t u : Rows} → OnlyNamed G N s t → OnlyNamed G N t u → OnlyNamed G N s u
only_then {G} {N} {s} {t} {u} a b = record {
  rows = λ e l n. split (b.rows e l (a.dates e l ∙ n))
      (λ q. split (a.rows e l n) (λ p. inl (q ∙ p)) (λ p. inr record { was = p.was; is = ap N q ∙ p.is }))
      (λ q. inr (split (a.rows e l n)
      (λ p. record { was = split q.was (λ h. inl (sym (ap N p) ∙ h)) (λ h. inr (sym (ap empty p) ∙ h)); is = q.is })
      (λ p. record { was = p.was; is = q.is })));
  dates = λ e l. b.dates e l ∙ a.dates e l;
}

-- stamps change none, and may follow
pub only_alike : {G : Geometry} (N : Names) (img img' : Bytes) → Alike G img img' → OnlyNamed G N (entry_at G img) (entry_at G img')
only_alike {G} N img img' w = record { rows = λ e l n. inl (w.row e l n); dates = dates_alike G img img' w }

-- names stay
pub only_stay : {G : Geometry} {N : Names} → ((r : Bytes) → N r ≡ true → used r ≡ true) → {s t : Rows} → OnlyNamed G N s t
    → (e : ℕ) → e < G.entries → N (s e) ≡ true → N (t e) ≡ true
only_stay {G} {N} sure {s} {t} w e l n =
    split (w.rows e l (used_no_dates (s e) (sure (s e) n))) (λ q. ap N q ∙ n) (λ q. q.is)

-- ---- of one file
pub by_used : (user : ℕ) (f : Bytes) → user ≤ 15 → (r : Bytes) → by_name user f r ≡ true → used r ≡ true
by_used user f hu r h = named_used false user f 1 r h hu

-- by another FCB of the same name
pub only_named : {G : Geometry} (user : ℕ) (f h : Bytes) → SameName h 1 f 1 → {s t : Rows} → OnlyNamed G (by_name user f) s t → OnlyNamed G (by_name user h) s t
only_named {G} user f h same {s} {t} w =
    let asked : (r : Bytes) → by_name user h r ≡ by_name user f r = named_asked h 1 f 1 same false user in
    record {
      rows = λ e l n. split (w.rows e l n) (λ q. inl q)
          (λ q. inr record { was = split q.was (λ y. inl (asked (s e) ∙ y)) (λ z. inr z); is = asked (t e) ∙ q.is });
      dates = w.dates;
    }

-- whatever name an entry had, it keeps
same_rows : (user : ℕ) (f r t : Bytes) → by_name user f r ≡ true → by_name user f t ≡ true → (u : ℕ) (h : Bytes) → by_name u h t ≡ by_name u h r
same_rows user f r t a b u h =
    named_cong false u h 1 t r (named_user false user f 1 t b ∙ sym (named_user false user f 1 r a))
    (λ i l. sym (like_at f 1 t 1 (named_like false user f 1 t b) i l) ∙ like_at f 1 r 1 (named_like false user f 1 r a) i l)

pub only_names : {G : Geometry} (user : ℕ) (f : Bytes) {s t : Rows} → OnlyNamed G (by_name user f) s t → (u : ℕ) → u ≤ 15 → (h : Bytes) → (e : ℕ) → e < G.entries
    → by_name u h (s e) ≡ true → by_name u h (t e) ≡ true
only_names {G} user f {s} {t} w u hu h e l n =
    let uses = by_used u h hu (s e) n in
    split (w.rows e l (used_no_dates (s e) uses)) (λ q. ap (by_name u h) q ∙ n)
    (λ q. split q.was (λ y. same_rows user f (s e) (t e) y q.is u h ∙ n)
    (λ z. not_both (empty (s e)) z (used_full (s e) uses)))
