mod ServingLemmas
