-- How a walk over the routes goes, byte by byte.
use Rattle.std.specs.Prelude.{if◌then◌else◌, nat_lt, bytes_eq, not, codes, cond}
use Rattle.std.specs.List.{list_all, starts_with, AllByRecursion as Every}
use Rattle.std.proofs.Common.{◌≡◌, ◌≢◌, ℕ, zero, suc, ◌+◌, ◌-◌, ◌<◌, Bool, true, false, ◌&&◌, List, [], ◌∷◌, ◌++◌, length, drop}
use Rattle.std.proofs.Common.{Option, Some, None, refl, sym, ap, subst, ◌∙◌, arith, nat_eq, ◌==◌}
use Rattle.std.proofs.lemmas.Bool.Decides.{nat_tests}
use Rattle.matchit.specs.Rows.{RowsOf, param_token, catch_all_token}
use Rattle.matchit.specs.Seek.{own, step, or_else, seek, param_step, has_slash}
use Rattle.matchit.specs.Router.{RouteOf, map_key}
use Rattle.lie_http.specs.declared.routes.Route.{Route}
use Rattle.lie_http.specs.declared.routes.Route.TheVariants.{Analyse, Studies}
use Rattle.lie_http.specs.Routes.{literal, named, the_routes, is_segment, route_of, LeadsBy}

differs : (x y : ℕ) → x ≢ y → (x == y) ≡ false
differs x y ne = grind (arith, nat_tests)

turned : (x y : ℕ) → nat_eq y x ≡ (x == y)
turned x y = grind (arith, nat_tests)

straight : (x y : ℕ) → nat_eq x y ≡ (x == y)
straight x y = grind (arith, nat_tests)

and-false : (v : Bool) → (v && false) ≡ false
and-false true = refl
and-false false = refl

and-true : (v : Bool) → (v && true) ≡ v
and-true true = refl
and-true false = refl

some_bytes : (n : ℕ) → nat_lt 0 (suc n) ≡ true
some_bytes n = grind (arith, nat_tests)

module _ {K : Type 0} where
  or_else-none : (a : Option K) → or_else a None ≡ a
  or_else-none None = refl
  or_else-none (Some k) = refl

  no_param : (p : List ℕ) → (param_step {K = K} [] p).1 ≡ []
  unfolding param_step
  no_param p = elim (has_slash p) as (λ v. (cond {A = ℕ × RowsOf K} v (0, []) (length p, [])).1 ≡ []) [ true ↦ refl | false ↦ refl ]

  -- no rows lead nowhere
  pub seek-none : (n : ℕ) (p : List ℕ) → seek {K = K} n [] p ≡ None
  unfolding seek
  seek-none n [] = refl
  seek-none (suc n) (b ∷ p) = seek-none n p
  seek-none zero (b ∷ p) = simp (seek-none 0 p, no_param (b ∷ p), seek-none (((param_step {K = K} [] (b ∷ p)).0) - 1) p)

  -- a byte where no row has a parameter
  pub seek-byte : (rs : RowsOf K) (b : ℕ) (p : List ℕ) → step param_token rs ≡ [] → step catch_all_token rs ≡ []
      → seek 0 rs (b ∷ p) ≡ seek 0 (step b rs) p
  unfolding seek
  seek-byte rs b p no_params no_catch =
      let n = (param_step (step param_token rs) (b ∷ p)).0 - 1 in
      let second : seek n (param_step (step param_token rs) (b ∷ p)).1 p ≡ None =
      ap (λ (r : RowsOf K). seek n (param_step r (b ∷ p)).1 p) no_params ∙ ap (λ (r : RowsOf K). seek n r p) (no_param (b ∷ p))
      ∙ seek-none n p in
      let third : own (step catch_all_token rs) ≡ None = ap own no_catch in
      ap (λ o. or_else (seek 0 (step b rs) p) (or_else o (own (step catch_all_token rs)))) second
      ∙ ap (λ o. or_else (seek 0 (step b rs) p) o) third ∙ or_else-none (seek 0 (step b rs) p)

  -- what is skipped whole leaves what ends there
  pub seek-all : (p : List ℕ) (rs : RowsOf K) → seek (length p) rs p ≡ own rs
  unfolding seek
  seek-all [] rs = refl
  seek-all (b ∷ p) rs = seek-all p rs

  -- a route of bytes
  pub seek-literal : (w : List ℕ) (k : K) (p : List ℕ) → Every (λ b. b < 256) w
      → seek 0 ((w, k) ∷ []) p ≡ (if bytes_eq p w then Some k else None)
  unfolding seek
  seek-literal [] k [] h = refl
  seek-literal [] k (b ∷ p) h = seek-byte (([], k) ∷ []) b p refl refl ∙ seek-none 0 p
  seek-literal (x ∷ w) k [] h = refl
  seek-literal (x ∷ w) k (b ∷ p) h =
      let no_params = ap (λ v. cond {A = RowsOf K} v ((w, k) ∷ []) []) (differs x param_token (omega (arith, h.0))) in
      let no_catch = ap (λ v. cond {A = RowsOf K} v ((w, k) ∷ []) []) (differs x catch_all_token (omega (arith, h.0))) in
      seek-byte ((x ∷ w, k) ∷ []) b p no_params no_catch ∙ by_byte (x == b) (seek-literal w k p h.1)
      ∙ sym (ap (λ v. if v && bytes_eq p w then Some k else None) (turned x b))
    where
      by_byte : (v : Bool) → seek 0 ((w, k) ∷ []) p ≡ (if bytes_eq p w then Some k else None)
          → seek 0 (cond {A = RowsOf K} v ((w, k) ∷ []) []) p ≡ (if v && bytes_eq p w then Some k else None)
      by_byte true e = e
      by_byte false e = seek-none 0 p

  -- a parameter at the end takes one segment
  seek-param : (m : K) (p : List ℕ) → Every (λ b. b < 256) p → seek 0 ((param_token ∷ [], m) ∷ []) p
      ≡ (if is_segment p then Some m else None)
  unfolding seek param_step
  seek-param m [] h = refl
  seek-param m (c ∷ r) h =
      let slashed = has_slash (c ∷ r) in
      let more = or_else (seek ((cond {A = ℕ × RowsOf K} slashed (0, []) (suc (length r), ([], m) ∷ [])).0 - 1) (cond {A = ℕ
      × RowsOf K} slashed (0, []) (suc (length r), ([], m) ∷ [])).1 r) None in
      ap (λ v. or_else (seek 0 (cond {A = RowsOf K} v (([], m) ∷ []) []) r) more) (differs param_token c (omega (arith, h.0)))
      ∙ by_slash slashed
    where
      by_slash : (v : Bool) → or_else (seek 0 [] r)
          (or_else (seek ((cond {A = ℕ × RowsOf K} v (0, []) (suc (length r), ([], m) ∷ [])).0 - 1) (cond {A = ℕ
          × RowsOf K} v (0, []) (suc (length r), ([], m) ∷ [])).1 r) None)
          ≡ (if nat_lt 0 (suc (length r)) && not v then Some m else None)
      by_slash true = ap (λ o. or_else o (or_else (seek 0 [] r) None)) (seek-none 0 r) ∙ ap (λ o. or_else o None) (seek-none 0 r)
          ∙ sym (ap (λ v. if v then Some m else None) (and-false (nat_lt 0 (suc (length r)))))
      by_slash false =
          let one : suc (length r) - 1 ≡ length r = omega arith in
          ap (λ o. or_else o (or_else (seek (suc (length r) - 1) (([], m) ∷ []) r) None)) (seek-none 0 r)
          ∙ ap (λ n. or_else (seek n (([], m) ∷ []) r) None) one ∙ ap (λ o. or_else o None) (seek-all r (([], m) ∷ []))
          ∙ sym (ap (λ v. if v then Some m else None) (and-true (nat_lt 0 (suc (length r))) ∙ some_bytes (length r)))

  -- the bytes before a slash and a parameter, and the same bytes alone
  pub seek-both : (w : List ℕ) (m k : K) (p : List ℕ) → Every (λ b. b < 256) w → Every (λ b. b < 256) p
      → seek 0 ((w ++ 47 ∷ param_token ∷ [], m) ∷ ((w, k) ∷ [])) p
      ≡ (if bytes_eq p w then Some k else (if starts_with nat_eq p (w ++ 47 ∷ []) && is_segment (drop
      (length w + 1) p) then Some m else None))
  unfolding seek
  seek-both [] m k [] h all = refl
  seek-both [] m k (b ∷ q) h all =
      seek-byte ((47 ∷ param_token ∷ [], m) ∷ (([], k) ∷ [])) b q refl refl ∙ by_slash (47 == b) (seek-param m q all.1)
      ∙ sym (ap (λ v. if v && is_segment q then Some m else None) (and-true (nat_eq 47 b) ∙ straight 47 b))
    where
      by_slash : (v : Bool) → seek 0 ((param_token ∷ [], m) ∷ []) q ≡ (if is_segment q then Some m else None)
          → seek 0 (cond {A = RowsOf K} v ((param_token ∷ [], m) ∷ []) []) q ≡ (if v && is_segment q then Some m else None)
      by_slash true e = e
      by_slash false e = seek-none 0 q
  seek-both (x ∷ w) m k [] h all = refl
  seek-both (x ∷ w) m k (b ∷ q) h all =
      let rest = w ++ 47 ∷ param_token ∷ [] in
      let left : (v : Bool) → RowsOf K = λ v. cond {A = RowsOf K} v ((rest, m) ∷ cond {A = RowsOf K} v ((w, k) ∷ []) [])
      (cond {A = RowsOf K} v ((w, k) ∷ []) []) in
      let answer : (v u : Bool) (l : List ℕ) → Option K = λ v u l. if v && bytes_eq q w then Some k else (if (u && starts_with nat_eq q
      (w ++ 47 ∷ [])) && is_segment l then Some m else None) in
      let behind : drop (length (x ∷ w) + 1) (b ∷ q) ≡ drop (length w + 1) q = ap (λ n. drop n (b ∷ q)) (one_more (length w)) in
      seek-byte ((x ∷ rest, m) ∷ ((x ∷ w, k) ∷ [])) b q (ap left (differs x param_token (omega (arith, h.0)))) (ap left
      (differs x catch_all_token (omega (arith, h.0))))
      ∙ by_byte (x == b) (seek-both w m k q h.1 all.1)
      ∙ ap (λ v. answer v (x == b) (drop (length w + 1) q)) (sym (turned x b))
      ∙ ap (λ u. answer (nat_eq b x) u (drop (length w + 1) q)) (sym (straight x b))
      ∙ ap (λ l. answer (nat_eq b x) (nat_eq x b) l) (sym behind)
    where
      one_more : (n : ℕ) → suc n + 1 ≡ suc (n + 1)
      one_more n = omega arith

      by_byte : (v : Bool)
          → seek 0 ((w ++ 47 ∷ param_token ∷ [], m) ∷ ((w, k) ∷ [])) q
          ≡ (if bytes_eq q w then Some k else (if starts_with nat_eq q (w ++ 47 ∷ []) && is_segment (drop
          (length w + 1) q) then Some m else None))
          → seek 0 (cond {A = RowsOf K} v ((w ++ 47 ∷ param_token ∷ [], m) ∷ cond {A = RowsOf K} v ((w, k) ∷ []) [])
          (cond {A = RowsOf K} v ((w, k) ∷ []) [])) q
          ≡ (if v && bytes_eq q w then Some k else (if (v && starts_with nat_eq q (w ++ 47 ∷ [])) && is_segment (drop
          (length w + 1) q) then Some m else None))
      by_byte true e = e
      by_byte false e = seek-none 0 q

-- ---- the routes

abbrev value_of : Option (RouteOf Route) → Option Route
value_of found = map_key (λ (r : RouteOf Route). r.value) found

value_if : (v : Bool) (a b : Option (RouteOf Route)) → value_of (if v then a else b) ≡ (if v then value_of a else value_of b)
value_if true a b = refl
value_if false a b = refl

same_if : (n b : ℕ) → (n == b) ≡ true → b ≡ n
same_if n b h = grind (arith, nat_tests)

other_if : (n b : ℕ) → (n == b) ≡ false → (nat_eq b n ≡ false) × (nat_eq n b ≡ false)
other_if n b h = (turned n b ∙ h, straight n b ∙ h)

below : (w : List ℕ) → list_all (λ b. nat_lt b 256) w ≡ true → Every (λ b. b < 256) w
below [] h = tt
below (x ∷ w) h = (below_one x (list_all (λ b. nat_lt b 256) w) h, below w (rest_below (nat_lt x 256) (list_all (λ b. nat_lt b 256) w) h))
  where
    below_one : (y : ℕ) (v : Bool) → (nat_lt y 256 && v) ≡ true → y < 256
    below_one y v e = grind (arith, nat_tests)

    rest_below : (u v : Bool) → (u && v) ≡ true → v ≡ true
    rest_below true v e = e
    rest_below false v e = absurd (cc)

-- behind the first slash and an `a`
leads_a : (q : List ℕ) → value_of (seek 0 (step 97 (step 47 the_routes)) q) ≡ route_of (47 ∷ (97 ∷ q))
leads_a q =
    ap value_of (seek-literal (codes "nalyse") (literal (codes "/analyse") Analyse).1 q (below (codes "nalyse") refl))
    ∙ value_if (bytes_eq q (codes "nalyse")) (Some (literal (codes "/analyse") Analyse).1) None

-- behind the first slash and an `s`
leads_s : (q : List ℕ) → Every (λ b. b < 256) q → value_of (seek 0 (step 115 (step 47 the_routes)) q) ≡ route_of (47 ∷ (115 ∷ q))
leads_s q all =
    let here = starts_with nat_eq q (codes "tudy/") && is_segment (drop 5 q) in
    ap value_of (seek-both (codes "tudy") named.1 (literal (codes "/study") Studies).1 q (below (codes "tudy") refl) all)
    ∙ value_if (bytes_eq q (codes "tudy")) (Some (literal (codes "/study") Studies).1) (if here then Some named.1 else None)
    ∙ ap (λ o. if bytes_eq q (codes "tudy") then Some Studies else o) (value_if here (Some named.1) None)

-- behind the first slash
leads_slash : (p : List ℕ) → Every (λ b. b < 256) p → value_of (seek 0 (step 47 the_routes) p) ≡ route_of (47 ∷ p)
unfolding seek
leads_slash [] all = refl
leads_slash (c ∷ q) all = ap value_of (seek-byte (step 47 the_routes) c q refl refl) ∙ at_a (97 == c) refl (115 == c) refl
  where
    at_a : (u : Bool) → (97 == c) ≡ u → (v : Bool) → (115 == c) ≡ v
        → value_of (seek 0 (step c (step 47 the_routes)) q) ≡ route_of (47 ∷ (c ∷ q))
    at_a true h v k = subst (λ (n : ℕ). value_of (seek 0 (step n (step 47 the_routes)) q)
        ≡ route_of (47 ∷ (n ∷ q))) (sym (same_if 97 c h)) (leads_a q)
    at_a false h true k = subst (λ (n : ℕ). value_of (seek 0 (step n (step 47 the_routes)) q)
        ≡ route_of (47 ∷ (n ∷ q))) (sym (same_if 115 c k)) (leads_s q all.1)
    at_a false h false k = rw (h, k, (other_if 97 c h).0, (other_if 115 c k).0) (ap value_of (seek-none 0 q))

pub leads_by : LeadsBy
unfolding seek
leads_by [] all = refl
leads_by (b ∷ p) all = ap value_of (seek-byte the_routes b p refl refl) ∙ at_slash (47 == b) refl
  where
    at_slash : (u : Bool) → (47 == b) ≡ u → value_of (seek 0 (step b the_routes) p) ≡ route_of (b ∷ p)
    at_slash true h = subst (λ (n : ℕ). value_of (seek 0 (step n the_routes) p)
        ≡ route_of (n ∷ p)) (sym (same_if 47 b h)) (leads_slash p all.1)
    at_slash false h = rw (h, (other_if 47 b h).0) (ap value_of (seek-none 0 p))
