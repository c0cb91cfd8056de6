-- A hint that fits a list of inequalities: its nogoods say of the list what they say of a zone; and how nogoods are learned and passed on.
use Rattle.std.specs.Prelude.{◌≡◌, refl, Bool, true, false, cond, ◌&&◌, List, [], ◌∷◌, ◌++◌, map, ℕ, zero, suc, ltb, ℤ, pos, take}
use Rattle.std.specs.Prelude.{set}
use Rattle.std.proofs.Common.{sym, ap, subst, ◌∙◌, true≢false, arith}
use Rattle.std.proofs.Math.Option.{Option}
use Rattle.std.proofs.Math.Option as option
use Rattle.std.specs.Int.Signed.{le_z}
use Rattle.integer.specs.Apart.{apart}
use Rattle.expr.specs.Affine.{Affine, value}
use Rattle.expr.specs.Ranges.{Inside}
use Rattle.expr.specs.Records.{affine, range_list}
use Rattle.expr.specs.declared.bound.Test.{Test}
use Rattle.expr.specs.declared.bound.Test.TheVariants.{Yes, No, Ask}
use Rattle.expr.specs.declared.number.Expr.{Expr}
use Rattle.expr.specs.declared.number.Valuation.{Valuation}
use Rattle.expr.specs.declared.range.Ranges.{Ranges}
use Rattle.nogoods.specs.Nogoods.{Below, none_n, below_none, below_with}
use Rattle.nogoods.specs.declared.Nogoods.{Nogoods}
use Rattle.systems.specs.Boxes.{Narrows}
use Rattle.systems.specs.BoxLaws.{first_nothing, within_inside}
use Rattle.valuations.specs.SearchLaws.{first_none}
use Rattle.valuations.specs.Valuations.{satisfies, first}
use Rattle.zones.specs.FlatLaws.{Listing, listing_put, listing_same, never_same}
use Rattle.zones.specs.Hinted.{exprs_of, Guessed, Trusted, Hinted, found_c, learned_c, noted_by, noted_c}
use Rattle.zones.specs.Put.{map_last}
use Rattle.zones.specs.Settled.{Verdict, opposite_c, is_none, never_c, never_f, on_c, settled_c}
use Rattle.zones.specs.System.{put_in, SameRows}
use Rattle.zones.specs.Zone.{plus_c, more_c}
use Rattle.zones.specs.declared.hint.Hint.{Hint}
use Rattle.zones.specs.declared.told.Told.{Told}
use Rattle.zones.specs.declared.told.Told.TheVariants as kinds
use Rattle.zones.specs.declared.zone.Zone.{Zone}

-- the list has the inequalities of a zone and a place behind them, and the hint's nogoods are below 0 where they hold
pub record Fit (h : Hint) (n : ℕ) (l : List ℤ) : Type 0 where
  pub zone : Zone
  pub listing : Listing h.ranges h.ranges zone n l
  pub trusted : Trusted zone h

pub fit_same : (h : Hint) (n : ℕ) (l m : List ℤ) → Fit h n l → SameRows n l m → Fit h n m
fit_same h n l m f s =
    record {
      zone = f.zone;
      listing = listing_same h.ranges h.ranges f.zone n l m s f.listing;
      trusted = f.trusted;
    }

pub same_put : (h : Hint) (n : ℕ) (l : List ℤ) (e : Expr) → Fit h n l → (m : List ℤ) → m ≡ put_in l n e → SameRows n l m
same_put h n l e f m g =
    let p = listing_put h.ranges h.ranges f.zone n l e f.listing in
    subst (SameRows n l) (sym g) (record { long = p.long ∙ sym f.listing.long; rows = p.same ∙ sym f.listing.same })

-- ---- inequalities and one more
satisfies_last : (es : List Affine) (e : Affine) (v : List ℤ)
    → satisfies (es ++ (e ∷ [])) v ≡ (satisfies es v && le_z (pos 0) (value e v))
unfolding satisfies
satisfies_last [] e v = by (le_z (pos 0) (value e v))
  where
    by : (b : Bool) → (b && true) ≡ (true && b)
    by true = refl
    by false = refl
satisfies_last (f ∷ es) e v =
    ap (λ (b : Bool). le_z (pos 0) (value f v) && b) (satisfies_last es e v)
    ∙ by (le_z (pos 0) (value f v)) (satisfies es v) (le_z (pos 0) (value e v))
  where
    by : (a b c : Bool) → (a && (b && c)) ≡ ((a && b) && c)
    by true b c = refl
    by false b c = refl

none_is : (o : Option (List ℤ)) → is_none o ≡ true → o ≡ option.none
none_is option.none h = refl
none_is (option.some v) h = apart cc

-- no valuation of the zone satisfies e: where the zone's inequalities hold, e is below 0
pub never_means : (c : Ranges) (z : Zone) (e : Expr) → never_c c z e ≡ true → (v : List ℤ) → Inside v (range_list c)
    → satisfies (exprs_of z) v ≡ true → le_z (pos 0) (value (affine e) v) ≡ false
unfolding never_c
never_means c z e h v i s =
    let none = none_is (first (range_list c) (map affine (take z.count z.ineqs ++ (e ∷ [])))) h in
    let fails = first_none (range_list c) (map affine (take z.count z.ineqs ++ (e ∷ []))) none v i in
    by (satisfies (exprs_of z) v) (le_z (pos 0) (value (affine e) v)) s
    (sym (satisfies_last (exprs_of z) (affine e) v)
    ∙ ap (λ (es : List Affine). satisfies es v) (sym (map_last (take z.count z.ineqs) e)) ∙ fails)
  where
    by : (a b : Bool) → a ≡ true → (a && b) ≡ false → b ≡ false
    by true b h g = g
    by false b h g = apart cc

pub means_never : (c : Ranges) (z : Zone) (e : Expr)
    → ((v : List ℤ) → Inside v (range_list c) → satisfies (exprs_of z) v ≡ true → le_z (pos 0) (value (affine e) v) ≡ false)
    → never_c c z e ≡ true
unfolding never_c
means_never c z e h =
    ap is_none
    (first_nothing (range_list c) (map affine (take z.count z.ineqs ++ (e ∷ [])))
    (λ v i.
    ap (λ (es : List Affine). satisfies es v) (map_last (take z.count z.ineqs) e)
    ∙ satisfies_last (exprs_of z) (affine e) v
    ∙ by (satisfies (exprs_of z) v) (le_z (pos 0) (value (affine e) v)) (h v i)))
  where
    by : (a b : Bool) → (a ≡ true → b ≡ false) → (a && b) ≡ false
    by true b h = h refl
    by false b h = refl

-- a nogood that says so
pub refuted_never : (h : Hint) (n : ℕ) (l : List ℤ) (e : Expr) → Fit h n l
    → ((v : List ℤ) → Below h.nogoods.list v → le_z (pos 0) (value (affine e) v) ≡ false) → true ≡ never_f h.ranges l n e
refuted_never h n l e f r =
    sym
    (never_same h.ranges h.ranges f.zone n l e f.listing
    ∙ means_never h.ranges f.zone e (λ v i s. r v (f.trusted.nogoods v i s)))

-- a guess that is sure says so
pub held_never : (h : Hint) (n : ℕ) (l : List ℤ) (e : Expr) → (f : Fit h n l) → h.sure ≡ true
    → le_z (pos 0) (value (affine e) h.guess.numbers) ≡ true → never_c h.ranges f.zone e ≡ false
held_never h n l e f sure holds = by (never_c h.ranges f.zone e) refl
  where
    by : (t : Bool) → never_c h.ranges f.zone e ≡ t → t ≡ false
    by true g =
        let v = f.trusted.guess sure in
        absurd (true≢false (sym holds ∙ never_means h.ranges f.zone e g h.guess.numbers v.0 v.1))
    by false g = refl

-- ---- what is learned
learned_trusted : (z : Zone) (h : Hint) (e : Expr) → Trusted z h → never_c h.ranges z e ≡ true → Trusted z (learned_c h e)
learned_trusted z h e t n =
    record {
      nogoods = λ v i s. below_with h.nogoods e v (t.nogoods v i s) (never_means h.ranges z e n v i s);
      guess = t.guess;
    }

pub found_trusted : (z : Zone) (h : Hint) (v : Valuation) → Trusted z h → Trusted z (found_c h v)
found_trusted z h v t = record { nogoods = t.nogoods; guess = t.guess }

pub noted_trusted : (z : Zone) (h : Hint) (t : Test) (kind : Told) → Trusted z h → kind ≡ (settled_c h.ranges z t).kind
    → Trusted z (noted_c h t kind)
unfolding noted_c on_c
noted_trusted z h Yes kind k e = k
noted_trusted z h No kind k e = k
noted_trusted z h (Ask x) kind k e = by kind e
  where
    of : Told → Verdict
    of n = record { kind = n; test = x }

    verdict : Bool → Bool → Bool → Verdict
    verdict a b c = cond {A = Verdict} a (of kinds.No) (cond b (of kinds.Yes) (cond c (of kinds.Split) (of kinds.Full)))

    no_is : (a b c : Bool) → kinds.No ≡ (verdict a b c).kind → a ≡ true
    no_is true b c h = refl
    no_is false true c h = apart cc
    no_is false false true h = apart cc
    no_is false false false h = apart cc

    yes_is : (a b c : Bool) → kinds.Yes ≡ (verdict a b c).kind → b ≡ true
    yes_is true b c h = apart cc
    yes_is false true c h = refl
    yes_is false false true h = apart cc
    yes_is false false false h = apart cc

    no : Bool
    no = never_c h.ranges z x

    yes : Bool
    yes = never_c h.ranges z (opposite_c x)

    by : (n : Told) → n ≡ (verdict no yes (ltb z.count 24)).kind → Trusted z (noted_by h x n)
    by kinds.No e = learned_trusted z h x k (no_is no yes (ltb z.count 24) e)
    by kinds.Yes e = learned_trusted z h (opposite_c x) k (yes_is no yes (ltb z.count 24) e)
    by kinds.Split e = k
    by kinds.Full e = k
    by (kinds.Other n) e = k

pub noted_ranges : (h : Hint) (t : Test) (kind : Told) → (noted_c h t kind).ranges ≡ h.ranges
unfolding noted_c
noted_ranges h Yes kind = refl
noted_ranges h No kind = refl
noted_ranges h (Ask x) kinds.No = refl
noted_ranges h (Ask x) kinds.Yes = refl
noted_ranges h (Ask x) kinds.Split = refl
noted_ranges h (Ask x) kinds.Full = refl
noted_ranges h (Ask x) (kinds.Other n) = refl

-- ---- what is passed on to a zone whose inequalities hold nowhere else
abbrev pub Fewer : Zone → Zone → Type 0
Fewer y z = (v : List ℤ) → satisfies (exprs_of y) v ≡ true → satisfies (exprs_of z) v ≡ true

pub hinted_fewer : (b : Ranges) (z y : Zone) (h g : Hint) → Fewer y z → Hinted b z h
    → Narrows (exprs_of y) (range_list b) (range_list g.ranges) → Guessed y g → g.nogoods ≡ h.nogoods → Hinted b y g
hinted_fewer b z y h g f k n held same =
    record {
      narrows = n;
      trusted = record {
        nogoods = λ v i s.
            subst (λ (x : Nogoods). Below x.list v) (sym same)
            (k.trusted.nogoods v
            (k.narrows.keeps v (within_inside v (range_list g.ranges) (range_list b) n.within i) (f v s)) (f v s));
        guess = held;
      };
    }

-- nothing is passed on
pub hinted_new : (b : Ranges) (z : Zone) (g : Hint) → Narrows (exprs_of z) (range_list b) (range_list g.ranges) → Guessed z g
    → g.nogoods ≡ none_n → Hinted b z g
hinted_new b z g n held same =
    record {
      narrows = n;
      trusted = record {
        nogoods = λ v i s. subst (λ (x : Nogoods). Below x.list v) (sym same) (below_none v);
        guess = held;
      };
    }

-- one inequality more
more_taken : (xs : List Expr) (n : ℕ) (e : Expr) (v : List ℤ) → satisfies (map affine (take (suc n) (set xs n e))) v ≡ true
    → satisfies (map affine (take n xs)) v ≡ true
unfolding satisfies
more_taken [] zero e v h = refl
more_taken [] (suc n) e v h = refl
more_taken (x ∷ xs) zero e v h = refl
more_taken (x ∷ xs) (suc n) e v h =
    by (le_z (pos 0) (value (affine x) v)) _ _ h (more_taken xs n e v)
  where
    by : (a b c : Bool) → (a && b) ≡ true → (b ≡ true → c ≡ true) → (a && c) ≡ true
    by true b c h g = g h
    by false b c h g = apart cc

pub fewer_more : (z : Zone) (e : Expr) → Fewer (more_c z e) z
unfolding more_c plus_c
fewer_more z e v h = by (ltb z.count 24) h
  where
    by : (t : Bool) → satisfies (exprs_of (cond {A = Zone} t (plus_c z e) z)) v ≡ true → satisfies (exprs_of z) v ≡ true
    by true h = more_taken z.ineqs z.count e v h
    by false h = h
