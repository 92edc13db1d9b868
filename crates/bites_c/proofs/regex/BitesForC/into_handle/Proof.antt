-- `into_handle` keeps what the handle holds.
use Rattle.bites_c.proofs.Walks.{◌≡◌, refl}
use denote.Exit.{yes}
use Rattle.bites_c.proofs.Renamed.{renamed}
use Rattle.bites_c.specs.contracts.held.Held as held
use Rattle.bites_c.specs.contracts.handle.Handle as handle
use Rattle.bites_c.specs.contracts.regex.Bites as named
use Rattle.bites_c.specs.contracts.regex.BitesForC.into_handle.Key.{name as #self}
use Rattle.bites_c.proofs.regex.BitesForC.into_handle.Statement.{statement}
use Rattle.bites_c.proofs.regex.BitesForC.into_handle.Code as code

pub into_handle_spec : {M : Type 1} → statement M
into_handle_spec 𝓤 𝓛 𝓜 𝓡 wired =
    renamed held.the_row named.the_row (handle.the_row held.the_row) (λ d. d.at) (λ d. d.alloc) (λ d. d.held) (λ p a x. record { at = p; alloc = a; held = x }) (λ d vs. refl) (λ p a x vs. refl) yes (λ d. tt) (λ d f. tt)
    (λ d r. r.held ≡ d.held) (λ d. refl) 𝓤 𝓛 𝓜 𝓡 named.the_type.name (handle.the_type held.the_row).name #self (code.unfolded 𝓤 𝓛.H 𝓜 𝓡 wired)
