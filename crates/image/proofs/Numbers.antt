-- What is found among the packages and among the services of one is below their number.
use Prim.Native.Nat.{ℕ}
use Rattle.policy.specs.Contract.{Aid, Tok}
use Rattle.policy.specs.Layout.{Layout}
use Rattle.policy.specs.Tables.{Tables}
use Rattle.policy.specs.Lookup.{number_of, service_of}
use Rattle.image.proofs.Finds.{Below, first_below}

module _ (L : Layout) (t : Tables) where
  pub package_below : (a : Aid) → Below L.packages (number_of L t a)
  unfolding number_of
  package_below a = first_below _ L.packages

  pub service_below : (j : ℕ) (s : Tok) → Below L.services (service_of L t j s)
  unfolding service_of
  service_below j s = first_below _ L.services
