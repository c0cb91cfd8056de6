-- The cases of a test.
use mathlib.Core.Path.{◌≡◌, refl, sym, ap, ◌∙◌}
use mathlib.Core.List.{List}
use mathlib.Core.Bool.{Bool, true, false, not, cond}
use mathlib.Core.Option.{Option}
use mathlib.Core.Option as option
use Prim.Native.Nat.{ℕ, suc, ◌+◌, min}
use native.Mathlib.Numerals.{add-one}
use native.Mathlib.Omega.{arith}
use lib.IntN.{ℤ, pos, ◌+ℤ◌}
use lib.Signed.{le_z, ◌≤ℤ◌, ◌<ℤ◌}
use Rattle.integer.specs.Order.{le_z_true}
use Rattle.integer.specs.Split.{split, split-all}
use Rattle.expr.specs.Affine.{Affine, value, dot}
use Rattle.expr.specs.Ranges.{Inside}
use Rattle.expr.specs.Records.{affine, range_list}
use Rattle.inequalities.specs.Flat.{exprs_in}
use Rattle.search.specs.Answers.{is_some}
use Rattle.valuations.specs.Valuations.{first}
use Rattle.expr.specs.declared.number.Expr.{Expr}
use Rattle.expr.specs.declared.range.Range.{Range}
use Rattle.expr.specs.declared.range.Ranges.{Ranges}
use Rattle.narrowing.specs.Best.{best_sum, best_of, best_sum_most}
use Rattle.zones.specs.Fits.{Fit, means_never, held_never}
use Rattle.zones.specs.FlatLaws.{listing_put, listing_same, never_same}
use Rattle.zones.specs.System.{put_in, SameRows}
use Rattle.zones.specs.Settled.{opposite_c, is_none, never_c, never_f, not_no_f, on_f, split_c}
use Rattle.zones.specs.declared.hint.Hint.{Hint}
use Rattle.zones.specs.declared.told.Told.{Told}
use Rattle.zones.specs.declared.told.Told.TheVariants as kinds

none_not_some : (o : Option (List ℤ)) → not (is_some o) ≡ is_none o
none_not_some option.none = refl
none_not_some (option.some v) = refl

pub never_is : (b : Ranges) (l m : List ℤ) (n k : ℕ) (e : Expr) (r : Bool) → k ≡ min n 24 → m ≡ put_in l n e
    → r ≡ is_some (first (range_list b) (exprs_in m (k + 1))) → not r ≡ never_f b l n e
unfolding never_f
never_is b l m n k e r q h g =
    ap not g
    ∙ none_not_some (first (range_list b) (exprs_in m (k + 1)))
    ∙ ap (λ (i : ℕ). is_none (first (range_list b) (exprs_in m i))) (add-one k ∙ ap suc q)
    ∙ ap (λ (f : List ℤ). is_none (first (range_list b) (exprs_in f (suc (min n 24))))) h

-- what is below 0 throughout the ranges
below_at : (e : Affine) (rs : List Range) (v : List ℤ) → best_of e rs <ℤ pos 0 → Inside v rs → le_z (pos 0) (value e v) ≡ false
unfolding best_of value
below_at e rs v g i =
    not_true (le_z (pos 0) (value e v))
    (λ t. below (dot e.coefs v) (best_sum e.coefs rs) e.constant (best_sum_most e.coefs v rs i) (le_z_true t) g)
  where
    not_true : (b : Bool) → (b ≡ true → ⊥) → b ≡ false
    not_true true h = absurd (h refl)
    not_true false h = refl

    below : (d s c : ℤ) → d ≤ℤ s → pos 0 ≤ℤ (c +ℤ d) → (c +ℤ s) <ℤ pos 0 → ⊥
    below d s c = rw (split d, split s, split c) (simp split-all (omega arith))

module _ (h : Hint) (n : ℕ) (l : List ℤ) (f : Fit h n l) where
  abbrev R : Ranges
  R = h.ranges

  never_zone : (e : Expr) → never_f R l n e ≡ never_c R f.zone e
  never_zone e = never_same R R f.zone n l e f.listing

  pub failed_never : (e : Expr) → best_of (affine e) (range_list R) <ℤ pos 0 → true ≡ never_f R l n e
  failed_never e g = sym (never_zone e ∙ means_never R f.zone e (λ v i s. below_at (affine e) (range_list R) v g i))

  -- the verdict on e, whatever stands behind the inequalities
  on_zone : (e : Expr) → on_f R l n e ≡ cond (never_c R f.zone e) kinds.No (cond (never_c R f.zone (opposite_c e)) kinds.Yes (split_c n))
  unfolding on_f
  on_zone e =
      rw (never_zone e, never_same R R f.zone n (put_in l n e) (opposite_c e) (listing_put R R f.zone n l e f.listing)) refl

  -- the guess tells that it is not no
  pub on_held : (e x : Expr) (k : Told) → h.sure ≡ true → le_z (pos 0) (value (affine e) h.guess.numbers) ≡ true → x ≡ opposite_c e
      → k ≡ not_no_f R l n x → k ≡ on_f R l n e
  on_held e x k s g hx hk =
      hk ∙ ap (λ (y : Expr). not_no_f R l n y) hx
      ∙ ap (λ (t : Bool). cond t kinds.Yes (split_c n)) (never_zone (opposite_c e))
      ∙ ap (λ (t : Bool). cond t kinds.No (cond (never_c R f.zone (opposite_c e)) kinds.Yes (split_c n))) (sym (held_never h n l e f s g))
      ∙ sym (on_zone e)

  pub on_no : (e : Expr) (r : Bool) → r ≡ never_f R l n e → r ≡ true → kinds.No ≡ on_f R l n e
  on_no e r hr t =
      ap (λ (t : Bool). cond t kinds.No (cond (never_c R f.zone (opposite_c e)) kinds.Yes (split_c n)))
      (sym t ∙ hr ∙ never_zone e)
      ∙ sym (on_zone e)

  -- it is not no, m being the list then
  module _ (e : Expr) (r : Bool) (hr : r ≡ never_f R l n e) (no : r ≡ false) (x : Expr) (hx : x ≡ opposite_c e) where
    not_no_is : on_f R l n e ≡ cond (never_c R f.zone x) kinds.Yes (split_c n)
    not_no_is =
        on_zone e
        ∙ ap (λ (t : Bool). cond t kinds.No (cond (never_c R f.zone (opposite_c e)) kinds.Yes (split_c n)))
        (sym (never_zone e) ∙ sym hr ∙ no)
        ∙ ap (λ (y : Expr). cond (never_c R f.zone y) kinds.Yes (split_c n)) (sym hx)

    pub on_split : h.sure ≡ true → le_z (pos 0) (value (affine x) h.guess.numbers) ≡ true → (k : Told) → k ≡ split_c n
        → k ≡ on_f R l n e
    on_split s g k hk =
        hk ∙ ap (λ (t : Bool). cond t kinds.Yes (split_c n)) (sym (held_never h n l x f s g)) ∙ sym not_no_is

    pub on_asked : (m : List ℤ) → SameRows n l m → (k : Told) → k ≡ not_no_f R m n x → k ≡ on_f R l n e
    on_asked m s k hk =
        hk
        ∙ ap (λ (t : Bool). cond t kinds.Yes (split_c n))
        (never_same R R f.zone n m x (listing_same R R f.zone n l m s f.listing))
        ∙ sym not_no_is

pub same_rows : (n : ℕ) (l : List ℤ) → SameRows n l l
same_rows n l = record { long = refl; rows = refl }

pub same_twice : (n : ℕ) (l m k : List ℤ) → SameRows n l m → SameRows n m k → SameRows n l k
same_twice n l m k a b = record { long = b.long ∙ a.long; rows = b.rows ∙ a.rows }
