-- An end kind loses nothing by its codes: lemmas that the laws of the end kinds cite.
use Rattle.std.proofs.Common.{◌≡◌, ℕ, ◌+◌, ◌*◌, ◌/◌, ◌%◌, ◌<◌, true, ltb, Some, Option, ap, subst, ◌∙◌, arith, lt-ltb}
use Rattle.std.proofs.Math.Bridge.{le_prop}
use Rattle.std.proofs.lemmas.Nat.{div-mul-add, mod-mul-add}
use Rattle.ends.specs.declared.setting.Setting.{Setting}
use Rattle.ends.specs.Codes.{setting, setting_code, setting_of}

pub same_setting : (c w d v : ℕ) (kc : c < 16) (sw : w < 8) (kd : d < 16) (sv : v < 8) → c ≡ d → w ≡ v → setting c w kc sw ≡ setting d v kd sv
same_setting c w d v kc sw kd sv p q =
    let P : ℕ → Type 0 = λ x. (kx : x < 16) → setting c w kc sw ≡ setting x w kx sw in
    let Q : ℕ → Type 0 = λ y. (sy : y < 8) → setting d w kd sw ≡ setting d y kd sy in
    subst P p (λ kx. ap (λ k. setting c w k sw) (le_prop kc kx)) kd ∙ subst Q q (λ sy. ap (λ s. setting d w kd s) (le_prop sw sy)) sv

-- a chip setting is what its code decodes to
pub setting_back : (e : Setting) → setting_of (setting_code e) ≡ Some e
setting_back e =
    let below : ltb (e.chip * 8 + e.waits) 128 ≡ true = lt-ltb _ _ (omega arith) in
    let q : (e.chip * 8 + e.waits) / 8 % 16 ≡ e.chip = omega (arith, div-mul-add e.chip 8 e.waits e.short) in
    let r : (e.chip * 8 + e.waits) % 8 ≡ e.waits = mod-mul-add e.chip 8 e.waits e.short in
    simp below (ap Some (same_setting _ _ _ _ _ _ _ _ q r))

-- ends of one code are one end
pub same_end : {E : Type 0} (code : E → ℕ) (decoded : ℕ → Option E) → ((e : E) → decoded (code e) ≡ Some e) → (x y : E) → code x ≡ code y → x ≡ y
same_end code decoded back x y e = let p = back x in let q = back y in let r = ap decoded e in cc
