-- A pin that matters, in addresses.
use Rattle.std.proofs.Common.{◌≡◌, ℕ, ◌^◌, ◌<◌, Bool, true, false, cond, eqb, ◌↔◌, List, [], ◌∷◌, ◌++◌, sym, refl, ap, ◌∙◌, subst, inl, inr}
use Rattle.std.proofs.lemmas.Bool.{not-true, eqb-false, cases_eq, and_cases, not_from_false}
use Rattle.model.specs.Lists.{In, Apart}
use Rattle.model.specs.Trees.{same, matters}
use Rattle.model.specs.Selections.{Selection, Setting, put, address, pin, view, code_at, Under, Unlike}
use Rattle.model.specs.Theorems.{PinMatters}
use Rattle.model.proofs.Lists.{in-++-left, in-++-right, in-++, apart_right, apart_both}
use Rattle.model.proofs.Trees.{same_ne}
use Rattle.model.proofs.Settings.{address_small, pin_address, put_same, put_other, address_agree, address_pin, order_has, mix, mix_in, mix_out, mix_is}
use Rattle.model.proofs.Views.{code_view}

-- a difference of the trees is one of the codes at a setting of their pins
differ : (n : ℕ) (f : ℕ → ℕ) (ps : List ℕ) (s t : Setting) → Apart ps → same (view n f ps s) (view n f ps t) ≡ false
    → (x : Setting) × (f (address n (mix ps s x)) ≡ f (address n (mix ps t x)) → ⊥)
differ n f [] s t a e = (s, eqb-false (f (address n s)) (f (address n t)) e)
differ n f (p ∷ ps) s t a e =
    elim (and_cases (same (view n f ps (put s p false)) (view n f ps (put t p false))) (same (view n f ps (put s p true)) (view n f ps (put t p true))) e)
    [ inl w ↦ up false (differ n f ps (put s p false) (put t p false) a.1 w) | inr w ↦ up true (differ n f ps (put s p true) (put t p true) a.1 w) ]
  where
    up : (v : Bool) → (x : Setting) × (f (address n (mix ps (put s p v) x)) ≡ f (address n (mix ps (put t p v) x)) → ⊥)
        → (x : Setting) × (f (address n (mix (p ∷ ps) s x)) ≡ f (address n (mix (p ∷ ps) t x)) → ⊥)
    up v r =
        let x = r.0 in
        let y = put x p v in
        let eq : (u : Setting) (q : ℕ) → mix (p ∷ ps) u y q ≡ mix ps (put u p v) x q = λ u q.
        mix_is ps (put u p (y p)) y (mix ps (put u p v) x)
        (λ j m. mix_in ps (put u p v) x j (inr m) ∙ sym (put_other x p v j (λ z. a.0 (subst (λ k. In k ps) z m))))
        (λ j out. mix_out ps (put u p v) x j out ∙ ap (λ b. put u p b j) (sym (put_same x p v))) q in
        (y, λ h. r.1 (ap f (sym (address_agree n (mix (p ∷ ps) s y) (mix ps (put s p v) x) (λ q l. eq s q))) ∙ (h ∙ ap f (address_agree n (mix (p ∷ ps) t y) (mix ps (put t p v) x) (λ q l. eq t q)))))

-- a setting, as s off these pins, at which the codes for pin p low and high differ
abbrev Turns : ℕ → Selection → ℕ → List ℕ → Setting → Type 0
Turns n f p ps s = (x : Setting) × (((q : ℕ) → (In q (p ∷ ps) → ⊥) → x q ≡ s q) × (f (address n (put x p false)) ≡ f (address n (put x p true)) → ⊥))

matters_turns : (n : ℕ) (f : Selection) (p : ℕ) (ps : List ℕ) (s : Setting) → Apart (p ∷ ps) → (matters (view n f (p ∷ ps) s) ≡ true) ↔ Turns n f p ps s
matters_turns n f p ps s a = (there, back)
  where
    there : matters (view n f (p ∷ ps) s) ≡ true
        → Turns n f p ps s
    there m =
        let r = differ n f ps (put s p false) (put s p true) a.1 (not-true (same (view n f ps (put s p false)) (view n f ps (put s p true))) m) in
        let x = mix ps s r.0 in
        let eq : (v : Bool) (q : ℕ) → mix ps (put s p v) r.0 q ≡ put x p v q = λ v q.
        mix_is ps (put s p v) r.0 (put x p v)
        (λ j k. put_other x p v j (λ z. a.0 (subst (λ w. In w ps) z k)) ∙ mix_in ps s r.0 j (inr k))
        (λ j out. ap (λ w. cond (eqb j p) v w) (mix_out ps s r.0 j out)) q in (
          x,
          (
            λ q out. mix_out ps s r.0 q (λ k. out (inr k)),
            λ h. r.1 (ap f (address_agree n (mix ps (put s p false) r.0) (put x p false) (λ q l. eq false q)) ∙ (h ∙ ap f (sym (address_agree n (mix ps (put s p true) r.0) (put x p true) (λ q l. eq true q))))),
          ),
        )

    back : Turns n f p ps s
        → matters (view n f (p ∷ ps) s) ≡ true
    back r =
        let x = r.0 in
        let eq : (v : Bool) (q : ℕ) → mix ps (put s p v) x q ≡ put x p v q = λ v q.
        mix_is ps (put s p v) x (put x p v)
        (λ j k. put_other x p v j (λ z. a.0 (subst (λ w. In w ps) z k)))
        (λ j out. elim (cases_eq j p) [
          | inl z ↦ (ap (put x p v) z ∙ put_same x p v) ∙ sym (ap (put s p v) z ∙ put_same s p v)
          | inr z ↦ put_other x p v j z ∙ (r.1.0 j (λ k. elim k [ inl i ↦ z i | inr i ↦ out i ]) ∙ sym (put_other s p v j z))
        ]) q in
        let at : (v : Bool) → code_at (view n f ps (put s p v)) ps x ≡ f (address n (put x p v)) = λ v.
        code_view n f ps (put s p v) x ∙ ap f (address_agree n (mix ps (put s p v) x) (put x p v) (λ q l. eq v q)) in
        not_from_false (same (view n f ps (put s p false)) (view n f ps (put s p true)))
        (same_ne (view n f ps (put s p false)) (view n f ps (put s p true))
        (λ e. r.1.1 (sym (at false) ∙ (ap (λ t. code_at t ps x) e ∙ at true))))

pub pin_matters : PinMatters
pin_matters n fixed p ps o f s = (there, back)
  where
    rest : List ℕ
    rest = p ∷ ps

    turns : (matters (view n f rest s) ≡ true) ↔ Turns n f p ps s
    turns = matters_turns n f p ps s (apart_right fixed rest o.once)

    out : (q : ℕ) → In q fixed → In q rest → ⊥
    out q k m = apart_both q fixed rest o.once k m

    not_p : (q : ℕ) → In q fixed → q ≡ p → ⊥
    not_p q k e = out q k (inl e)

    in_p : p < n
    in_p = o.small p (in-++-right p fixed rest (inl refl))

    there : matters (view n f rest s) ≡ true → (a : ℕ) × ((b : ℕ) × (Under n fixed s a × Under n fixed s b × Unlike n p a b × (f a ≡ f b → ⊥)))
    there m =
        let r = turns.0 m in
        let x = r.0 in
        let read : (v : Bool) (q : ℕ) → q < n → pin n (address n (put x p v)) q ≡ put x p v q = λ v q l. pin_address n (put x p v) q l in
        let u : (v : Bool) → Under n fixed s (address n (put x p v)) = λ v. record {
          small = address_small n (put x p v);
          stands = λ q k. read v q (o.small q (in-++-left q fixed rest k)) ∙ (put_other x p v q (not_p q k) ∙ r.1.0 q (out q k));
        } in
        let d : Unlike n p (address n (put x p false)) (address n (put x p true)) = record {
          low = read false p in_p ∙ put_same x p false;
          high = read true p in_p ∙ put_same x p true;
          alone = λ q l ne. (read false q l ∙ put_other x p false q ne) ∙ sym (read true q l ∙ put_other x p true q ne);
        } in
        (address n (put x p false), (address n (put x p true), (u false, u true, d, r.1.1)))

    back : (a : ℕ) × ((b : ℕ) × (Under n fixed s a × Under n fixed s b × Unlike n p a b × (f a ≡ f b → ⊥))) → matters (view n f rest s) ≡ true
    back w =
        let a = w.0 in
        let b = w.1.0 in
        let x = mix rest s (pin n a) in
        let like : (q : ℕ) → q < n → x q ≡ pin n a q = λ q l.
        elim (in-++ q fixed rest (order_has n (fixed ++ rest) o q l)) [
          | inl k ↦ mix_out rest s (pin n a) q (out q k) ∙ sym (w.1.1.0.stands q k)
          | inr k ↦ mix_in rest s (pin n a) q (inr k)
        ] in
        let at : (v : Bool) (c : ℕ) → c < 2 ^ n → pin n c p ≡ v → ((q : ℕ) → q < n → (q ≡ p → ⊥) → x q ≡ pin n c q) → address n (put x p v) ≡ c =
        λ v c l e h. address_agree n (put x p v) (pin n c) (λ q k.
        elim (cases_eq q p) [
          | inl i ↦ ap (put x p v) i ∙ (put_same x p v ∙ (sym e ∙ ap (pin n c) (sym i)))
          | inr i ↦ put_other x p v q i ∙ h q k i
        ]) ∙ address_pin n c l in
        let low = at false a w.1.1.0.small w.1.1.2.low (λ q l i. like q l) in
        let high = at true b w.1.1.1.small w.1.1.2.high (λ q l i. like q l ∙ w.1.1.2.alone q l i) in
        turns.1 (x, (λ q i. mix_out rest s (pin n a) q i, λ h. w.1.1.3 (ap f (sym low) ∙ (h ∙ ap f high))))
