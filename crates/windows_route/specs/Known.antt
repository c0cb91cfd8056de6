-- What is known of each zone on its way along the route.
use Rattle.std.specs.Prelude.{◌≡◌, refl, Bool, true, false, cond, List, [], ℕ, ◌+◌, ◌≤◌, ◌<◌, eqb, length, get_or, set}
use Rattle.std.proofs.Common.{sym, subst, ◌∙◌, arith, eqb-true, length-set, get_or-set_same, get_or-set_other}
use Rattle.std.proofs.lemmas.Bool.{eqb-false}
use Rattle.expr.specs.declared.bound.Bound.{Bound}
use Rattle.expr.specs.declared.range.Ranges.{Ranges}
use Rattle.parts.specs.Parts.{with_bounds}
use Rattle.parts.specs.declared.part.Part.{Part}
use Rattle.passing.specs.State.{begun_c, pushed_c, listed_c, dropped_c, loaded_c, passed_c, stepped_c}
use Rattle.passing.specs.declared.pass.Pass.{Pass}
use Rattle.split.specs.Stack.{no_part}
use Rattle.split.specs.Trees.{start_c}
use Rattle.steps.specs.Steps.{no_zone, changed_c, kept_c, asks_c, part_c}
use Rattle.steps.specs.declared.step.Step.{Step}
use Rattle.steps.specs.declared.step.Step.TheVariants as step
use Rattle.zones.specs.Hinted.{Hinted}
use Rattle.zones.specs.declared.hint.Hint.{Hint}
use Rattle.zones.specs.declared.zone.Zone.{Zone}

-- what is read past the end of a list of hints
abbrev pub no_hint : Hint
no_hint =
    record {
      ranges = record { list = [] };
      guess = record { numbers = [] };
      sure = false;
      other = record { numbers = [] };
      nogoods = record { list = []; next = 0 };
    }

-- each zone has its hint: those that are listed, those that are still to be taken up, and those of the parts that wait
pub record Known (b : Ranges) (list : List Zone) (hints : List Hint) (spare : List Zone) (spares : List Hint) (stack : List Part)
    (waits : List Hint) (s : Pass) : Type 0 where
  pub long : length list ≡ 32
  pub hints_long : length hints ≡ 32
  pub spare_long : length spare ≡ 32
  pub spares_long : length spares ≡ 32
  pub stack_long : length stack ≡ 25
  pub waits_long : length waits ≡ 25
  pub listed : (x : ℕ) → x < s.kept → Hinted b (get_or list x no_zone) (get_or hints x no_hint)
  pub spared : (x : ℕ) → s.i ≤ x → x < s.n → x < s.kept → Hinted b (get_or spare x no_zone) (get_or spares x no_hint)
  pub ahead : (x : ℕ) → s.i ≤ x → x < s.n → s.kept ≤ x → Hinted b (get_or list x no_zone) (get_or hints x no_hint)
  pub waiting : (x : ℕ) → x < s.depth → Hinted b (get_or stack x no_part).zone (get_or waits x no_hint)

-- ---- what a zone has does not depend on its matrix
pub hinted_bounds : (b : Ranges) (z y : Zone) (m : List Bound) (h : Hint) → y ≡ with_bounds z m → Hinted b z h → Hinted b y h
hinted_bounds b z y m h e k = rw e (record {
  narrows = k.narrows;
  trusted = record {
    nogoods = k.trusted.nogoods;
    guess = k.trusted.guess;
  };
})

hinted_changed : (b : Ranges) (st : Step) (w : ℕ) (z : Zone) (h : Hint) → Hinted b z h → Hinted b (changed_c st w z) h
unfolding changed_c
hinted_changed b step.Delay w z h k =
    record { narrows = k.narrows; trusted = record { nogoods = k.trusted.nogoods; guess = k.trusted.guess } }
hinted_changed b (step.Guard g) w z h k = k
hinted_changed b (step.Resets bits visit) w z h k =
    record { narrows = k.narrows; trusted = record { nogoods = k.trusted.nogoods; guess = k.trusted.guess } }

pub hinted_part : (b : Ranges) (st : Step) (w : ℕ) (z : Zone) (h : Hint) → Hinted b z h → Hinted b (part_c st w z).zone h
unfolding part_c
hinted_part b st w z h k = by (asks_c st)
  where
    by : (t : Bool) → Hinted b (cond {A = Part} t (start_c z) (kept_c (changed_c st w z))).zone h
    by true = k
    by false = hinted_changed b st w z h k

-- ---- one place of two lists set
module _ {A D : Type 0} (P : A → D → Type 0) (xs : List A) (ys : List D) (a₀ : A) (d₀ : D) (n : ℕ) (a : A) (d : D) where
  set_here : n < length xs → n < length ys → P a d → P (get_or (set xs n a) n a₀) (get_or (set ys n d) n d₀)
  set_here h g p = rw (get_or-set_same xs n a a₀ h, get_or-set_same ys n d d₀ g) p

  set_there : (x : ℕ) → (x ≡ n → ⊥) → P (get_or xs x a₀) (get_or ys x d₀) → P (get_or (set xs n a) x a₀) (get_or (set ys n d) x d₀)
  set_there x o p = rw (get_or-set_other xs n x a a₀ o, get_or-set_other ys n x d d₀ o) p

  pub set_both : n < length xs → n < length ys → P a d → (x : ℕ) → ((x ≡ n → ⊥) → P (get_or xs x a₀) (get_or ys x d₀))
      → P (get_or (set xs n a) x a₀) (get_or (set ys n d) x d₀)
  set_both h g p x q = by (eqb x n) refl
    where
      by : (t : Bool) → eqb x n ≡ t → P (get_or (set xs n a) x a₀) (get_or (set ys n d) x d₀)
      by true e = subst (λ (y : ℕ). P (get_or (set xs n a) y a₀) (get_or (set ys n d) y d₀)) (sym (eqb-true x n e)) (set_here h g p)
      by false e = set_there x (eqb-false x n e) (q (eqb-false x n e))

abbrev ZoneHinted : Ranges → Zone → Hint → Type 0
ZoneHinted b z h = Hinted b z h

abbrev PartHinted : Ranges → Part → Hint → Type 0
PartHinted b p h = Hinted b p.zone h

-- ---- the turns
pub known_starts : (b : Ranges) (list spare : List Zone) (hints spares waits : List Hint) (stack : List Part) (visit n : ℕ)
    → length list ≡ 32 → length hints ≡ 32 → length spare ≡ 32 → length spares ≡ 32 → length stack ≡ 25 → length waits ≡ 25
    → ((x : ℕ) → x < n → Hinted b (get_or list x no_zone) (get_or hints x no_hint))
    → Known b list hints spare spares stack waits (begun_c visit n)
known_starts b list spare hints spares waits stack visit n l h sl sh st w k =
    record {
      long = l;
      hints_long = h;
      spare_long = sl;
      spares_long = sh;
      stack_long = st;
      waits_long = w;
      listed = λ x g. absurd (omega arith);
      spared = λ x g i m. absurd (omega arith);
      ahead = λ x g i m. k x i;
      waiting = λ x g. absurd (omega arith);
    }

module _ (b : Ranges) (list : List Zone) (hints : List Hint) (spare : List Zone) (spares : List Hint) (stack : List Part)
    (waits : List Hint) (s : Pass) (n : Known b list hints spare spares stack waits s) where
  pub known_again : (visit : ℕ) → s.i ≡ 0 → s.kept ≡ 0 → Known b list hints spare spares stack waits (begun_c visit s.n)
  known_again visit e k =
      known_starts b list spare hints spares waits stack visit s.n n.long n.hints_long n.spare_long n.spares_long
      n.stack_long n.waits_long (λ x h. n.ahead x (omega arith) h (omega arith))

  pub known_stepped : (st : Step) → Known b list hints spare spares stack waits (stepped_c s st)
  known_stepped st =
      record {
        long = n.long;
        hints_long = n.hints_long;
        spare_long = n.spare_long;
        spares_long = n.spares_long;
        stack_long = n.stack_long;
        waits_long = n.waits_long;
        listed = λ x g. absurd (omega arith);
        spared = λ x g i m. absurd (omega arith);
        ahead = λ x g i m. n.listed x i;
        waiting = λ x g. absurd (omega arith);
      }

  pub known_dropped : Known b list hints spare spares stack waits (dropped_c s)
  known_dropped =
      record {
        long = n.long;
        hints_long = n.hints_long;
        spare_long = n.spare_long;
        spares_long = n.spares_long;
        stack_long = n.stack_long;
        waits_long = n.waits_long;
        listed = n.listed;
        spared = n.spared;
        ahead = n.ahead;
        waiting = λ x g. n.waiting x (omega arith);
      }

  pub known_passed : s.i ≡ s.kept → s.i < s.n → s.kept < 32 → (z : Zone) (h : Hint) → Hinted b z h
      → Known b (set list s.kept z) (set hints s.kept h) spare spares stack waits (passed_c s)
  known_passed e more room z h k =
      record {
        long = length-set list s.kept z ∙ n.long;
        hints_long = length-set hints s.kept h ∙ n.hints_long;
        spare_long = n.spare_long;
        spares_long = n.spares_long;
        stack_long = n.stack_long;
        waits_long = n.waits_long;
        listed = λ x g. put x (λ o. n.listed x (less x s.kept g o));
        spared = λ x g i m. absurd (omega arith);
        ahead = λ x g i m. put x (λ o. n.ahead x (omega arith) i (omega arith));
        waiting = n.waiting;
      }
    where
      less : (x k : ℕ) → x < k + 1 → (x ≡ k → ⊥) → x < k
      less x k h o = omega (arith, o)

      put : (x : ℕ) → ((x ≡ s.kept → ⊥) → Hinted b (get_or list x no_zone) (get_or hints x no_hint))
          → Hinted b (get_or (set list s.kept z) x no_zone) (get_or (set hints s.kept h) x no_hint)
      put x =
          set_both (ZoneHinted b) list hints no_zone no_hint s.kept z h (omega (arith, n.long)) (omega (arith, n.hints_long)) k x

  pub known_loaded : (p : Part) (h : Hint) → Hinted b p.zone h
      → Known b list hints spare spares (set stack 0 p) (set waits 0 h) (loaded_c s)
  known_loaded p h k =
      record {
        long = n.long;
        hints_long = n.hints_long;
        spare_long = n.spare_long;
        spares_long = n.spares_long;
        stack_long = length-set stack 0 p ∙ n.stack_long;
        waits_long = length-set waits 0 h ∙ n.waits_long;
        listed = n.listed;
        spared = λ x g i m. n.spared x (omega arith) i m;
        ahead = λ x g i m. n.ahead x (omega arith) i m;
        waiting =
            λ x g.
            set_both (PartHinted b) stack waits no_part no_hint 0 p h (omega (arith, n.stack_long)) (omega (arith, n.waits_long)) k x
            (λ o. absurd (none x g o));
      }
    where
      none : (x : ℕ) → x < 1 → (x ≡ 0 → ⊥) → ⊥
      none x g o = omega (arith, o)

  module _ (no yes : Part) (g h : Hint) (top : ℕ) (at : s.depth ≡ top + 1) (room : s.depth < 25) (kn : Hinted b no.zone g)
      (ky : Hinted b yes.zone h) where
    pub known_pushed : Known b list hints spare spares (set (set stack top no) (top + 1) yes) (set (set waits top g) (top + 1) h)
        (pushed_c s)
    known_pushed =
        record {
          long = n.long;
          hints_long = n.hints_long;
          spare_long = n.spare_long;
          spares_long = n.spares_long;
          stack_long = length-set (set stack top no) (top + 1) yes ∙ length-set stack top no ∙ n.stack_long;
          waits_long = length-set (set waits top g) (top + 1) h ∙ length-set waits top g ∙ n.waits_long;
          listed = n.listed;
          spared = n.spared;
          ahead = n.ahead;
          waiting =
              λ x d.
              set_both (PartHinted b) (set stack top no) (set waits top g) no_part no_hint (top + 1) yes h
              (omega (arith, length-set stack top no, n.stack_long)) (omega (arith, length-set waits top g, n.waits_long)) ky x
              (λ o. set_both (PartHinted b) stack waits no_part no_hint top no g (omega (arith, n.stack_long)) (omega (
                arith,
                n.waits_long,
              ))
              kn x (λ u. n.waiting x (below x d o)));
        }
      where
        below : (x : ℕ) → x < s.depth + 1 → (x ≡ top + 1 → ⊥) → x < s.depth
        below x d o = omega (arith, o)

  -- a zone is listed, and what stood there spared, or given up
  module _ (z : Zone) (h : Hint) (k : Hinted b z h) (room : s.kept < 32) where
    less_than : (x k : ℕ) → x < k + 1 → (x ≡ k → ⊥) → x < k
    less_than x k h o = omega (arith, o)

    listed_more : (x : ℕ) → x < s.kept + 1
        → Hinted b (get_or (set list s.kept z) x no_zone) (get_or (set hints s.kept h) x no_hint)
    listed_more x g =
        set_both (ZoneHinted b) list hints no_zone no_hint s.kept z h (omega (arith, n.long)) (omega (arith, n.hints_long)) k x
        (λ o. n.listed x (less_than x s.kept g o))

    ahead_less : (x : ℕ) → s.i ≤ x → x < s.n → s.kept + 1 ≤ x
        → Hinted b (get_or (set list s.kept z) x no_zone) (get_or (set hints s.kept h) x no_hint)
    ahead_less x g i m =
        set_both (ZoneHinted b) list hints no_zone no_hint s.kept z h (omega (arith, n.long)) (omega (arith, n.hints_long)) k x
        (λ o. n.ahead x g i (omega arith))

    pub known_listed : Known b (set list s.kept z) (set hints s.kept h) (set spare s.kept (get_or list s.kept no_zone))
        (set spares s.kept (get_or hints s.kept no_hint)) stack waits (listed_c s)
    known_listed =
        record {
          long = length-set list s.kept z ∙ n.long;
          hints_long = length-set hints s.kept h ∙ n.hints_long;
          spare_long = length-set spare s.kept (get_or list s.kept no_zone) ∙ n.spare_long;
          spares_long = length-set spares s.kept (get_or hints s.kept no_hint) ∙ n.spares_long;
          stack_long = n.stack_long;
          waits_long = n.waits_long;
          listed = listed_more;
          spared = λ x g i m. by x g i m (eqb x s.kept) refl;
          ahead = ahead_less;
          waiting = λ x g. n.waiting x (omega arith);
        }
      where
        zs : List Zone
        zs = set spare s.kept (get_or list s.kept no_zone)

        hs : List Hint
        hs = set spares s.kept (get_or hints s.kept no_hint)

        by : (x : ℕ) → s.i ≤ x → x < s.n → x < s.kept + 1 → (t : Bool) → eqb x s.kept ≡ t → Hinted b (get_or zs x no_zone) (get_or hs
            x no_hint)
        by x g i m true q =
            let same = eqb-true x s.kept q in
            rw (
              same,
              get_or-set_same spare s.kept (get_or list s.kept no_zone) no_zone (omega (arith, n.spare_long)),
              get_or-set_same spares s.kept (get_or hints s.kept no_hint) no_hint (omega (arith, n.spares_long)),
            )
            (n.ahead s.kept (omega arith) (omega arith) (omega arith))
        by x g i m false q =
            let other = eqb-false x s.kept q in
            rw (
              get_or-set_other spare s.kept x (get_or list s.kept no_zone) no_zone other,
              get_or-set_other spares s.kept x (get_or hints s.kept no_hint) no_hint other,
            )
            (n.spared x g i (less_than x s.kept m other))
