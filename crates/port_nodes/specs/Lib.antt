pub mod NodeChains
