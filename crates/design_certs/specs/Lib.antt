pub mod DesignCerts
